-- `core_choice::better_task` meets its contract.
use Prim.Native.Nat.{ℕ}
use lib.Dec.{ltb, eqb}
use mathlib.Core.Bool.{true, false, ◌||◌}
use mathlib.Core.Path.{◌≡◌, sym, ◌∙◌}
use Rattle.planning.specs.declared.Line.{Line}
use Rattle.task_state.specs.declared.State.{State}
use Rattle.task_state.specs.Key.{waits, key_of}
use Rattle.core_choice.specs.declared.Best.{Best}
use Rattle.core_choice.specs.Choice.{better_task}
use Rattle.core_choice.proofs.better_task.Goals.{Else-not-waits}
use Rattle.core_choice.proofs.better_task.Goals as goal

-- of a task that waits the key decides, and the lower number at a tie
module _ (b : Best) (i : ℕ) (ln : Line) (st : State) (k x : ℕ) (w : waits ln st k x ≡ true) {key : ℕ} (e : key ≡ key_of ln st k) where
  better : (eqb b.task 0 || ltb key b.key) ≡ true → record { task = i; key = key } ≡ better_task b i ln st k x
  better t = rw (w, ← e, t)

  no_better : (eqb b.task 0 || ltb key b.key) ≡ false → b ≡ better_task b i ln st k x
  no_better t = rw (w, ← e, t)

-- one that waits
waiting : (c : Else-not-waits) → let s = c.args in waits s.line s.state s.core s.time.0 ≡ true
waiting c = sym c.waits.ensures ∙ c.if-not-waits.false

-- a task that does not wait on the core changes nothing
pub returns-then-not-waits : goal.returns-then-not-waits
returns-then-not-waits c = rw (sym c.waits.ensures ∙ c.if-not-waits.true)

pub key-key-requires : goal.key-key-requires
key-key-requires c = let p = c.requires in (p.0, p.1, p.2)

-- is the best so far
pub returns-then-best-key : goal.returns-then-best-key
returns-then-best-key c =
    let s = c.args in
    better s.best s.task s.line s.state s.core s.time.0 (waiting (goal.at.returns-then-best-key c).Else-not-waits) c.key-key.ensures c.if-best-key.true

-- or it is not
pub returns : goal.returns
returns c =
    let s = c.args in
    no_better s.best s.task s.line s.state s.core s.time.0 (waiting (goal.at.returns c).Else-not-waits) c.key-key.ensures c.if-best-key.false
