-- Any two answers that a public function's contract allows are equal.
use mathlib.Core.Path.{◌≡◌, sym, ap, ap₂, ◌∙◌}
use Prim.Native.Nat.{ℕ}
use mathlib.Core.List.{List}
use Rattle.std.specs.declared.result.Result.{Result}
use Rattle.std.specs.declared.result.Result.TheVariants.{Ok, Err}
use Rattle.lists.specs.Settled.{Settled}
use Rattle.units.specs.declared.share.Share.{Share}
use Rattle.units.specs.declared.refusal.Refusal.{Refusal as Refused}
use Rattle.units.proofs.Refusals.{refuses, same_refusal}
use Rattle.admission.specs.declared.admit.Admitted.{Admitted}
use Rattle.admission.specs.Admission.{Admission, refused_with, admission_told}
use Rattle.admission.proofs.admit.admit.Reads as Admit
use Rattle.admission.proofs.table.no_table.Reads as NoTable

-- an answer is settled by what it tells
settled : (x y : Result Admitted Refused) → admission_told x ≡ admission_told y → x ≡ y
unfolding refused_with
settled (Ok a) (Ok b) e =
    ap₂ (λ (l : ℕ) (ws : List Share). Ok (record { common = l; weights = ws }))
    (ap (λ (r : Admission). r.common) e) (ap (λ (r : Admission). r.weights) e)
settled (Ok a) (Err s) e = refuses s.reason (sym (ap (λ (r : Admission). r.refusal.no) e))
settled (Err r) (Ok b) e = refuses r.reason (ap (λ (r : Admission). r.refusal.no) e)
settled (Err r) (Err s) e = ap (λ (t : Refused). Err t) (same_refusal r s (ap (λ (r : Admission). r.refusal) e))

pub admit : Settled Admit.Post
admit κs a x y e f p q = settled x y (p ∙ sym q)

pub no_table : Settled NoTable.Post
no_table κs a x y e f p q = p ∙ sym q
