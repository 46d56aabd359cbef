-- Any two answers that a public function's contract allows are equal, and each byte of the buffer.
use Prim.Native.Nat.{ℕ}
use mathlib.Core.Path.{◌≡◌, sym, ap, ◌∙◌}
use Rattle.std.specs.declared.result.Result.{Result}
use Rattle.std.specs.declared.result.Result.TheVariants.{Ok, Err}
use Rattle.lists.specs.Settled.{SettledLent}
use Rattle.units.specs.declared.refusal.Refusal.{Refusal as Refused}
use Rattle.units.proofs.Refusals.{refuses, same_refusal}
use Rattle.listing.specs.Listed.{Listed, listing_told}
use Rattle.listing.proofs.listed.list.Reads as List
use Rattle.listing.proofs.listed.list_plan.Reads as ListPlan
use Rattle.listing.proofs.listed.list_table.Reads as ListTable

-- an answer is settled by what it tells
settled : (x y : Result ℕ Refused) → listing_told x ≡ listing_told y → x ≡ y
settled (Ok a) (Ok b) e = ap (λ (n : ℕ). Ok n) (ap (λ (l : Listed). l.length) e)
settled (Ok a) (Err s) e = refuses s.reason (sym (ap (λ (l : Listed). l.refusal.no) e))
settled (Err r) (Ok b) e = refuses r.reason (ap (λ (l : Listed). l.refusal.no) e)
settled (Err r) (Err s) e = ap (λ (t : Refused). Err t) (same_refusal r s (ap (λ (l : Listed). l.refusal) e))

pub list : SettledLent (λ κs e. e.1.0.now) List.Post
list κs a x y e f p q = (settled x y (p.0 ∙ sym q.0), p.1 ∙ sym q.1)

pub list_table_lem : SettledLent (λ κs e. e.1.1.0.now) ListTable.Post
list_table_lem κs a x y e f p q = (settled x y (p.0 ∙ sym q.0), p.1 ∙ sym q.1)

pub list_plan_lem : SettledLent (λ κs e. e.1.0.now) ListPlan.Post
list_plan_lem κs a x y e f p q = (settled x y (p.0 ∙ sym q.0), p.1 ∙ sym q.1)
