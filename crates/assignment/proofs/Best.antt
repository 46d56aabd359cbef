-- Where the largest of the first i numbers stands first, one number more.
use Prim.Native.Nat.{ℕ, suc, ◌+◌, ◌≤◌, ◌<◌, max}
use mathlib.Core.Path.{◌≡◌, refl, sym, ap, ◌∙◌}
use mathlib.Core.List.{List, [], ◌∷◌, ◌++◌}
use native.Mathlib.Omega.{arith}
use native.Mathlib.Numerals.{add-one}
use lib.Dec.{leb}
use lib.ListN.{length, get_or, take}
use lib.Seq.{take-suc, take_all, length-take-le, get_or-take}
use borrow.Author.Tests.{leb-true, leb-false, le-leb, lt-leb}
use Rattle.lists.specs.Lists.{most, at_most}
use Rattle.lists.proofs.Tests.{by_cases}
use Rattle.lists.proofs.Lists.{most_some, at_most_is}

-- the largest, with one more number at the end
most_snoc : (xs : List ℕ) (x : ℕ) → most (xs ++ x ∷ []) ≡ max (most xs) x
most_snoc [] x = omega arith
most_snoc (y ∷ xs) x = omega (arith, most_snoc xs x)

-- a larger number at the end is the first largest
higher : (xs : List ℕ) (x : ℕ) → most xs < x → at_most (xs ++ x ∷ []) ≡ length xs
higher [] x h = rw (le-leb 0 x (omega arith))
higher (y ∷ xs) x h = rw (lt-leb (most (xs ++ x ∷ [])) y (omega (arith, most_snoc xs x))) (ap suc (higher xs x (omega arith)))

-- one that is no larger changes nothing
lower : (xs : List ℕ) (x : ℕ) → 0 < length xs → x ≤ most xs → at_most (xs ++ x ∷ []) ≡ at_most xs
lower [] x k h = absurd (omega arith)
lower (y ∷ xs) x k h =
    by_cases (leb (most xs) y)
    (λ e. rw (e, le-leb (most (xs ++ x ∷ [])) y (omega (arith, leb-true (most xs) y e, most_snoc xs x))))
    (λ e.
    let f = leb-false (most xs) y e in
    rw (e, lt-leb (most (xs ++ x ∷ [])) y (omega (arith, most_snoc xs x))) (ap suc (lower xs x (most_some xs y f) (omega arith))))

-- best is where the largest of the first i numbers stands first, and top that number
pub record Best (xs : List ℕ) (best top i : ℕ) : Type 0 where
  pub within : best < i
  pub is : best ≡ at_most (take i xs)
  pub there : top ≡ get_or xs best 0

-- the first of one
alone : (xs : List ℕ) → ◌≡◌ {A = ℕ} 0 (at_most (take 1 xs))
alone [] = refl
alone (x ∷ xs) = rw (le-leb 0 x (omega arith))

-- of the first number alone it is the first
pub first : (xs : List ℕ) (top : ℕ) → top ≡ get_or xs 0 0 → Best xs 0 top 1
first xs top e = record { within = omega arith; is = alone xs; there = e }

-- of all numbers
pub last : (xs : List ℕ) (best top i : ℕ) → Best xs best top i → length xs ≤ i → best ≡ at_most xs
last xs best top i b h = b.is ∙ ap at_most (take_all i xs h)

module _ (xs : List ℕ) (best top i : ℕ) (b : Best xs best top i) (h : i < length xs) where
  -- it is the largest so far
  top_most : top ≡ most (take i xs)
  top_most =
      b.there
      ∙ sym (get_or-take i xs best 0 b.within)
      ∙ ap (λ (k : ℕ). get_or (take i xs) k 0) b.is
      ∙ at_most_is (take i xs)

  -- the next number is larger
  pub better : (x : ℕ) → x ≡ get_or xs i 0 → top < x → Best xs i x (i + 1)
  better x e k = record {
    within = omega arith;
    is = rw (add-one i, take-suc xs i 0 h, higher (take i xs) (get_or xs i 0) (omega (arith, top_most))) (sym (length-take-le i xs (omega arith)));
    there = e;
  }

  -- the next number is no larger
  pub kept : get_or xs i 0 ≤ top → Best xs best top (i + 1)
  kept k = record {
    within = omega (arith, b.within);
    is = rw (
      add-one i,
      take-suc xs i 0 h,
      lower (take i xs) (get_or xs i 0) (omega (arith, length-take-le i xs (omega arith), b.within))
          (omega (arith, top_most)),
    ) b.is;
    there = b.there;
  }
