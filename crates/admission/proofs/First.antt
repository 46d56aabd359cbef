-- The first of several tests that refuses.
use mathlib.Core.Path.{◌≡◌, sym, ap, ◌∙◌}
use borrow.Author.Tests.{eq-eqb, ne_eqb}
use Rattle.units.specs.Refusals.{Refusal}
use Rattle.admission.specs.Refusals.{◌or_else◌}

-- a test x of what a tests that refuses decides
pub decides : (x a b : Refusal) → x ≡ a → (x.no ≡ 0 → ⊥) → x ≡ (a or_else b)
decides x a b e n = e ∙ (rw (ne_eqb a.no 0 (λ q. n (ap (λ (r : Refusal). r.no) e ∙ q))))

-- one that does not leaves it to the next, y of what b tests
pub leaves : (x a y b : Refusal) → x ≡ a → x.no ≡ 0 → y ≡ b → y ≡ (a or_else b)
leaves x a y b e z f = rw (eq-eqb a.no 0 (sym (ap (λ (r : Refusal). r.no) e) ∙ z)) f
