-- A list that is taken starts a good record.
use Prim.Native.Nat.{ℕ}
use mathlib.Core.Path.{◌≡◌, sym, ◌∙◌}
use mathlib.Core.List.{List}
use Rattle.planning.specs.Plan.{plan_of}
use Rattle.soundness.proofs.Taken.{plan_number}
use Rattle.soundness.proofs.PlannedSound.{plan_sound_lem}
use Rattle.dispatch.specs.Record.{record_of}
use Rattle.dispatch.specs.Shape.{Good}
use Rattle.soundness.proofs.PlannedShape.{started_plan}
use Rattle.dispatch.proofs.Fresh.{fresh_good}

-- the record that it starts
pub started : (m : ℕ) (xs : List ℕ) → (plan_of m xs).refusal.no ≡ 0 → Good (record_of (plan_of m xs).plan)
started m xs ok = fresh_good (plan_of m xs).plan (started_plan m xs ok) (plan_sound_lem m xs (sym (plan_number m xs) ∙ ok))
