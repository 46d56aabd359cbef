-- Any two answers that a public function's contract allows are equal.
use mathlib.Core.Path.{◌≡◌, sym, ap, ◌∙◌}
use Rattle.std.specs.declared.result.Result.{Result}
use Rattle.std.specs.declared.result.Result.TheVariants.{Ok, Err}
use Rattle.lists.specs.Settled.{Settled}
use Rattle.units.specs.declared.refusal.Refusal.{Refusal as Refused}
use Rattle.units.proofs.Refusals.{refuses, same_refusal}
use Rattle.planning.specs.declared.Plan.{Plan}
use Rattle.planning.specs.Plan.{Planned, refused_plan, taken_plan, plan_told}
use Rattle.planning.proofs.plan_of.Reads as PlanOf

-- an answer is settled by what it tells
settled : (x y : Result Plan Refused) → plan_told x ≡ plan_told y → x ≡ y
unfolding refused_plan taken_plan
settled (Ok a) (Ok b) e = ap (λ (pl : Plan). Ok pl) (ap (λ (r : Planned). r.plan) e)
settled (Ok a) (Err s) e = refuses s.reason (sym (ap (λ (r : Planned). r.refusal.no) e))
settled (Err r) (Ok b) e = refuses r.reason (ap (λ (r : Planned). r.refusal.no) e)
settled (Err r) (Err s) e = ap (λ (t : Refused). Err t) (same_refusal r s (ap (λ (r : Planned). r.refusal) e))

pub plan_of_lem : Settled PlanOf.Post
plan_of_lem κs a x y e f p q = settled x y (p ∙ sym q)
