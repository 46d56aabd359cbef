-- `state_rules::runs_sound` meets its contract.
use Prim.Native.Nat.{◌+◌}
use mathlib.Core.Path.{◌≡◌, sym, ap, ◌∙◌}
use native.Mathlib.Omega.{arith}
use borrow.Author.Tests.{le-leb}
use Rattle.units.specs.declared.ticks.Duration.{Duration}
use Rattle.units.specs.Limits.{clock_limit, runs_limit}
use Rattle.lists.proofs.Below.{all_none, all_more, all_fails}
use Rattle.state_rules.specs.Sound.{run_rule}
use Rattle.state_rules.proofs.Ruled.{unplaced, unfinished, past}
use Rattle.state_rules.proofs.runs_sound.Goals.{Joined-k-live, then-k-live+then-placed, then-k-live+else-placed, else-k-live}
use Rattle.state_rules.proofs.runs_sound.Goals as goal

-- what is tested of a run is its rule
ruled : (c : Joined-k-live) → run_rule c.args.line c.args.state c.loop-k.k ≡ c.if-k-live.fine
ruled c =
    let ln = c.args.line in
    let st = c.args.state in
    let k = c.loop-k.k in
    let here = c.run_of-run.ensures in
    let latest = ap (λ (d : Duration). clock_limit + d.0) c.due_after.ensures in
    elim c.if-k-live.branch [
      | then-k-live+then-placed w ↦
          unfinished ln st k latest w.if-k-live.true (sym (rw here at w.placed.ensures) ∙ w.if-placed.true) ∙ sym (rw here at w.sound.ensures) ∙ sym w.fine-is
      | then-k-live+else-placed w ↦
          unplaced ln st k w.if-k-live.true (sym (rw here at w.placed.ensures) ∙ w.if-placed.false) ∙ sym w.if-placed.false ∙ sym w.fine-is
      | else-k-live w ↦ past ln st k w.if-k-live.false ∙ sym (rw here at w.empty-fine.ensures) ∙ sym w.fine-is
    ]

pub loop-k-init : goal.loop-k-init
loop-k-init c = all_none _

pub returns-then-not-fine : goal.returns-then-not-fine
returns-then-not-fine c =
    let ln = c.args.line in
    let st = c.args.state in
    let fails = ruled (goal.at.returns-then-not-fine c).Joined-k-live ∙ c.if-not-fine.true in
    rw (le-leb st.live runs_limit (omega arith), all_fails runs_limit c.loop-k.k (λ j. run_rule ln st j) (omega arith) fails)

pub loop-k-preserved : goal.loop-k-preserved
loop-k-preserved c = all_more _ _ c.loop-k.invariant (ruled (goal.at.loop-k-preserved c).Joined-k-live ∙ c.if-not-fine.false)
