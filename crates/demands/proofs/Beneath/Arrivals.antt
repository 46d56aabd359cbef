-- The tests of one arrival, row by row.
use Prim.Native.Nat.{ℕ, ◌≤◌, ◌<◌}
use mathlib.Core.Path.{◌≡◌, refl, sym, subst}
use mathlib.Core.Logic.{◌↔◌, ◌⊎◌, ⊎_elim, inl, inr}
use mathlib.Core.Bool.{Bool, true, false, cond, ◌||◌, false≢true}
use lib.Dec.{ltb, leb, eqb}
use borrow.Author.Tests.{ltb-true, lt-ltb, leb-true, le-leb, eqb-true, eq-eqb}
use Rattle.lists.proofs.Tests.{or_left, or_right, or_cases}
use Rattle.call_tests.specs.Tests.{outside}
use Rattle.dispatch.specs.Given.{◌if◌else◌, here, past, none, Out}
use Rattle.arrivals.specs.Arrivals.{tests_of}

-- one row more before those of a number, by a test that says its case
row : {Case : Type 0} {Later : ℕ → Type 0} {later : ℕ} (b : Bool) (k : ℕ) → (b ≡ true) ↔ Case → ((n : ℕ) → (later ≡ n) ↔ Later n)
    → (n : ℕ) → (cond b k later ≡ n) ↔ (k if Case else Later) n
row {Case} {Later} true k c l n = (λ e. subst (k if Case else Later) e (here (c.0 refl)), back)
  where
    back : {n : ℕ} → (k if Case else Later) n → k ≡ n
    back (here p) = refl
    back (past f p) = absurd (f (c.0 refl))
row {Case} {Later} {later} false k c l n = (λ e. past (λ p. false≢true (c.1 p)) ((l n).0 e), back)
  where
    back : {n : ℕ} → (k if Case else Later) n → later ≡ n
    back (here p) = absurd (false≢true (c.1 p))
    back {n} (past f p) = (l n).1 p

-- either of two tests
either : {A B : Type 0} (a b : Bool) → (a ≡ true) ↔ A → (b ≡ true) ↔ B → ((a || b) ≡ true) ↔ (A ⊎ B)
either a b p q = (
  λ e. ⊎_elim (λ x. inl (p.0 x)) (λ x. inr (q.0 x)) (or_cases a b e),
  ⊎_elim (λ x. or_left a b (p.1 x)) (λ x. or_right a b (q.1 x)),
)

-- a number is out of its range
out_if : (n i : ℕ) → (outside n i ≡ true) ↔ Out n i
out_if n i = either (eqb i 0) (ltb n i) (eqb-true i 0, eq-eqb i 0) (ltb-true n i, lt-ltb n i)

pub rows : (k count task cost len before time n : ℕ) → (tests_of k count task cost len before time ≡ n)
    ↔ (25 if (4096 ≤ k) ⊎ Out count task else 26 if Out cost len else 27 if time < before else none) n
rows k count task cost len before time =
    row (leb 4096 k || outside count task) 25 (either (leb 4096 k) (outside count task) (leb-true 4096 k, le-leb 4096 k) (out_if count task))
    (row (outside cost len) 26 (out_if cost len)
    (row (ltb time before) 27 (ltb-true time before, lt-ltb time before) (λ n. (sym, sym))))
