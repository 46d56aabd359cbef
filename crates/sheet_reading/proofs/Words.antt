-- The plan of a sheet by what the sheet says.
use Prim.Native.Nat.{ℕ}
use mathlib.Core.Path.{◌≡◌, refl, sym, ◌∙◌}
use mathlib.Core.List.{List}
use borrow.Author.Tests.{ne_eqb}
use Rattle.units.specs.Refusals.{refusal}
use Rattle.admission.specs.Admission.{plan_refusal}
use Rattle.planning.specs.Plan.{plan_of, refused_plan}
use Rattle.soundness.proofs.Taken.{plan_number}
use Rattle.sheet_text.specs.Job.{Job, ticks_in}
use Rattle.sheet_text.specs.Sheet.{says, refused_by}
use Rattle.sheet_text.specs.Grammar.{Says}
use Rattle.sheet_text.proofs.EverySheet.{reads}
use Rattle.sheet_reading.specs.Read.{unread, planned, answered, plan_sheet}
use Rattle.sheet_reading.proofs.Plans.{sheet_no_lem}
use Rattle.sheet_reading.proofs.Taken.{read_sheet}

module _ (m : ℕ) {s : List ℕ} where
  -- a sheet that 17, 18 or 19 refuses
  pub sheet_refused : {n : ℕ} → Says s (refused_by n) → plan_sheet m s ≡ unread (refusal n 0)
  sheet_refused h = sym (sheet_no_lem m s (reads s h))

  module _ {tick : ℕ} {js : List Job} (h : Says s (says tick js)) where
    -- any other is planned, in its exact ticks
    sheet_is : plan_sheet m s ≡ planned tick js (plan_of m (ticks_in tick js))
    unfolding plan_sheet answered
    sheet_is = rw (reads s h) refl

    -- planning refuses it
    pub sheet_planning : ((plan_refusal m (ticks_in tick js)).no ≡ 0 → ⊥) → plan_sheet m s ≡ unread (plan_refusal m (ticks_in tick js))
    unfolding planned plan_of refused_plan
    sheet_planning n = let z = ne_eqb (plan_refusal m (ticks_in tick js)).no 0 n in sheet_is ∙ rw (z, z) refl

    -- or takes it
    pub sheet_taken : (plan_refusal m (ticks_in tick js)).no ≡ 0 → plan_sheet m s ≡ read_sheet m tick js
    unfolding planned
    sheet_taken t = sheet_is ∙ rw (plan_number m (ticks_in tick js) ∙ t) refl
