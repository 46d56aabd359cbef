-- Any two answers that a public function's contract allows are equal.
use mathlib.Core.Path.{◌≡◌, sym, ap, ◌∙◌}
use Rattle.std.specs.declared.result.Result.{Result}
use Rattle.std.specs.declared.result.Result.TheVariants.{Ok, Err}
use Rattle.lists.specs.Settled.{Settled}
use Rattle.units.specs.declared.refusal.Refusal.{Refusal as Refused}
use Rattle.units.proofs.Refusals.{refuses, same_refusal}
use Rattle.sheet_reading.specs.declared.PlannedSheet.{PlannedSheet}
use Rattle.sheet_reading.specs.Read.{Sheet, unread, sheet_told}
use Rattle.sheet_reading.proofs.plan_sheet.Reads as PlanSheet

-- an answer is settled by what it tells
settled : (x y : Result PlannedSheet Refused) → sheet_told x ≡ sheet_told y → x ≡ y
unfolding unread
settled (Ok a) (Ok b) e = ap (λ (s : Sheet). Ok (record { tick = s.tick; names = s.names; length = s.length; plan = s.plan })) e
settled (Ok a) (Err s) e = refuses s.reason (sym (ap (λ (s : Sheet). s.refusal.no) e))
settled (Err r) (Ok b) e = refuses r.reason (ap (λ (s : Sheet). s.refusal.no) e)
settled (Err r) (Err s) e = ap (λ (t : Refused). Err t) (same_refusal r s (ap (λ (s : Sheet). s.refusal) e))

pub plan_sheet_lem : Settled PlanSheet.Post
plan_sheet_lem κs a x y e f p q = settled x y (p ∙ sym q)
