-- An accepted release of any good record answers the core that document 01 names by the record's own place and counts, and release time plus T.
use Prim.Native.Nat.{ℕ, suc, ◌+◌, ◌-◌, ◌*◌}
use mathlib.Core.Path.{◌≡◌, refl, sym, ap₂, ◌∙◌, subst}
use mathlib.Core.Logic.{◌↔◌}
use native.Mathlib.Omega.{arith}
use lib.ListN.{get_or, get_or-map}
use Rattle.units.specs.Limits.{cores_limit}
use Rattle.units.specs.declared.ticks.Ticks.{Ticks}
use Rattle.units.specs.Units.{ticks}
use Rattle.assignment.proofs.Properties.{share_core}
use Rattle.planning.specs.Plan.{no_line, row_of}
use Rattle.planning.specs.Tasks.{task_line, task_weight, task_share}
use Rattle.soundness.proofs.SoundKept.{sound_kept}
use Rattle.turn.specs.Choice.{RunGoesTo}
use Rattle.turn.proofs.Choice.{some_share}
use Rattle.turn.proofs.SincePlan.{turn_goes, goes_among, goes_to_one}
use Rattle.task_state.specs.declared.State.{State}
use Rattle.task_state.specs.Due.{release_at}
use Rattle.task_state.specs.Runs.{turn_at, due_at, taken_run}
use Rattle.state_rules.proofs.Facts.{facts, turnable}
use Rattle.dispatch.specs.declared.Record.{Record}
use Rattle.dispatch.specs.declared.call.Call.TheVariants.{Release}
use Rattle.dispatch.specs.Calls.Answer.{Released}
use Rattle.dispatch.specs.Record.{line_at, state_at}
use Rattle.dispatch.specs.Shape.{Good}
use Rattle.dispatch.specs.Calls.{answered_of, call_refusal}
use Rattle.dispatch.proofs.SoundFacts.{sound_facts}
use Rattle.dispatch.proofs.Records.{task_lined, task_wide, task_shaped, task_sound}
use Rattle.dispatch.proofs.Passed.{release_passed}
use Rattle.dispatch.proofs.Answers.{release_taken}
use Rattle.dispatch.proofs.OneCall.{release_no_lem}

module _ (r : Record) (g : Good r) (i : ℕ) where
  -- task i's weight, and its share on core p
  abbrev w : ℕ
  w = task_weight r.plan i

  abbrev s : ℕ → ℕ
  s p = task_share r.plan i p

  -- a run goes to one of the M cores: only they have shares
  pub on_cores : (t : ℕ) (n : ℕ → ℕ) (p : ℕ) → RunGoesTo w t s n cores_limit p → RunGoesTo w t s n r.plan.cores p
  on_cores t n p a =
      let k = sound_kept r.plan g.shaped.plan (sound_facts r g.sound).plan in
      let row = get_or-map row_of r.plan.lines (i - 1) no_line in
      let there = share_core k.structure (i - 1) (p - 1) (rw row (some_share (n p * w) (s p) t a.opened)) in
      goes_among w t s n cores_limit r.plan.cores p k.cores_few (omega (arith, there, a.from)) a

  -- what it is at, and its count on core p
  abbrev st : State
  st = state_at r (i - 1)

  abbrev n : ℕ → ℕ
  n p = get_or st.counts (p - 1) 0

  module _ (t : Ticks) (e : call_refusal r (Release i t) ≡ 0) where
    -- the next turn
    turn_named : RunGoesTo w st.place s n r.plan.cores (turn_at (line_at r (i - 1)) st).core
    turn_named =
        let h = (release_passed r i t.0 (sym (release_no_lem r i t) ∙ e)).0.here in
        let l = task_lined r g (i - 1) h in
        let f = facts (line_at r (i - 1)) st (task_sound r g (i - 1) h) in
        let back : (j : ℕ) → suc j - 1 ≡ j = λ j. omega arith in
        on_cores st.place n (turn_at (line_at r (i - 1)) st).core
        (turn_goes w st.place (row_of (line_at r (i - 1))) st.counts (turnable (line_at r (i - 1)) st f l.small l.shares)
        (task_wide r g (i - 1) h) (task_shaped r g (i - 1) h).counts s n (λ j. rw (back j)) (λ j. rw (back j)))

    -- is answered, with the deadline, and no other
    pub release_exactly : (p : ℕ) (d : Ticks)
        → ((answered_of r (Release i t)).answer ≡ Released p d)
        ↔ (RunGoesTo w st.place s n r.plan.cores p × (d ≡ ticks (release_at (task_line r.plan i) st t.0 + (task_line r.plan i).period.0)))
    unfolding taken_run
    release_exactly p d =
        let core = (turn_at (line_at r (i - 1)) st).core in
        let due = ticks (due_at (task_line r.plan i) st t.0) in
        let q = release_taken r i t.0 (sym (sym (release_no_lem r i t) ∙ e)) refl refl in
        rw (answered_of, q) (
          λ (a : Released core due ≡ Released p d).
              let here : core ≡ p = (cc) in
              let then : d ≡ due = (cc) in
              (subst (λ (k : ℕ). RunGoesTo w st.place s n r.plan.cores k) here turn_named, then),
          λ a. ap₂ Released (goes_to_one w st.place s n r.plan.cores core p turn_named a.0) (sym a.1),
        )
