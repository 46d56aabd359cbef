-- Any number may stand in the place of that for a wrong task or core: it is answered there alone.
use Prim.Native.Nat.{ℕ}
use mathlib.Core.Path.{◌≡◌, refl, ap, ◌∙◌}
use mathlib.Core.Bool.{Bool, true, false, cond, not}
use lib.Dec.{ltb, eqb}
use borrow.Author.Tests.{ne_eqb}
use Rattle.units.specs.Limits.{clock_limit}
use Rattle.units.specs.Refusals.{task_no, past_no, clock_no, unsound_no}
use Rattle.call_tests.specs.Tests.{outside, shared_tests}

-- the first of the tests that applies, by 7 and by the number that stands for it
by_tests : (sound out late early : Bool) (wrong : ℕ)
    → let told = (λ (k : ℕ). cond (not sound) unsound_no (cond out k (cond late clock_no (cond early past_no 0)))) in
    cond (eqb (told task_no) task_no) wrong (told task_no) ≡ told wrong
by_tests false out late early wrong = refl
by_tests true true late early wrong = refl
by_tests true false true early wrong = refl
by_tests true false false true wrong = refl
by_tests true false false false wrong = refl

module _ (sound : Bool) (wrong n i clock t : ℕ) {k : ℕ} (e : k ≡ shared_tests sound task_no n i clock t) where
  in_place : cond (eqb k task_no) wrong k ≡ shared_tests sound wrong n i clock t
  in_place =
      ap (λ (m : ℕ). cond (eqb m task_no) wrong m) e ∙ by_tests sound (outside n i) (ltb clock_limit t) (ltb t clock) wrong

  -- where 7 is answered, the number is
  pub there : k ≡ task_no → wrong ≡ shared_tests sound wrong n i clock t
  there s = rw s at in_place

  -- and elsewhere what is answered is the same
  pub elsewhere : (k ≡ task_no → ⊥) → k ≡ shared_tests sound wrong n i clock t
  elsewhere s = rw (ne_eqb k task_no s) at in_place
