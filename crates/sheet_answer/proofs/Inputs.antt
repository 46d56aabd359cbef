-- The sheet of an input, as the code meets it.
use Rattle.std.specs.declared.option.Option.TheVariants.{Some, None}
use Prim.Native.Nat.{ℕ, ◌-◌}
use mathlib.Core.Path.{◌≡◌, refl, ap, ◌∙◌}
use mathlib.Core.List.{List}
use lib.ListN.{length, take, drop}
use Rattle.units.specs.Refusals.{refusal, text_no}
use Rattle.scanning.proofs.Fields.{rest_is}
use Rattle.table_text.specs.Text.{cores_line}
use Rattle.sheet_reading.specs.Read.{unread, plan_sheet}
use Rattle.sheet_answer.specs.Input.{after_cores, input_sheet}

module _ (s : List ℕ) where
  -- M's line cannot be read
  pub input_none : cores_line s ≡ None → unread (refusal text_no 1) ≡ input_sheet s
  unfolding input_sheet after_cores
  input_none e = rw e refl

  -- it can, and the sheet follows
  pub input_is : {m at : ℕ} → cores_line s ≡ Some (m, at) → plan_sheet m (take (length s - at) (drop at s)) ≡ input_sheet s
  unfolding input_sheet after_cores
  input_is {m} {at} e = ap (plan_sheet m) (rest_is s at) ∙ rw e refl
