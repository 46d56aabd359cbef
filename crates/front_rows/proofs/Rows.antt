-- All tasks' fronts in a list of numbers, and one of them stored.
use Prim.Native.Nat.{ℕ, ◌+◌, ◌*◌, ◌<◌}
use mathlib.Core.Path.{◌≡◌, refl, ap, ◌∙◌}
use mathlib.Core.List.{List, [], ◌∷◌}
use native.Mathlib.Omega.{arith}
use native.Mathlib.Numerals.{unary_clauses}
use lib.ListN.{length, get_or, set}
use lib.Seq.{sets, length-sets}
use Rattle.lists.proofs.Tabled.{tabled_long, tabled_at, tabled_set}
use Rattle.lent_numbers.proofs.Sets.{sets_other, sets_here}
use Rattle.units.specs.Limits.{tasks_limit}
use Rattle.fronts.specs.declared.Front.{Front}
use Rattle.fronts.specs.Front.{no_front}
use Rattle.front_rows.specs.Rows.{front_at, fronts_in, put_front}

-- a front for each task
pub fronts_long : (xs : List ℕ) → length (fronts_in xs) ≡ tasks_limit
unfolding fronts_in
fronts_long xs = tabled_long (front_at xs) tasks_limit

-- which is its own
pub fronts_at : (xs : List ℕ) (i : ℕ) → i < tasks_limit → get_or (fronts_in xs) i no_front ≡ front_at xs i
unfolding fronts_in
fronts_at xs i h = tabled_at no_front (front_at xs) tasks_limit i h

module _ (xs : List ℕ) (i : ℕ) (f : Front) where
  -- a front's seven numbers
  abbrev numbers : List ℕ
  numbers = f.core ∷ f.release.0 ∷ f.key ∷ f.length ∷ f.run ∷ f.last.0 ∷ f.period ∷ []

  -- seven stores are those of a front
  put_is : put_front xs i f ≡ sets xs (7 * i) numbers
  put_is = simp unary_clauses refl

  pub put_long : length (put_front xs i f) ≡ length xs
  put_long = ap (length {A = ℕ}) put_is ∙ length-sets xs (7 * i) numbers

  -- the task has that front
  at_same : length xs ≡ 7 * tasks_limit → i < tasks_limit → front_at (put_front xs i f) i ≡ f
  at_same long h =
      let n : ℕ = 7 * i in
      let is : (k : ℕ) → k < 7 → (q : ℕ) → q ≡ n + k → get_or (sets xs n numbers) q 0 ≡ get_or numbers k 0 =
      λ k l q e. sets_here numbers xs n q k e l (omega (arith, long)) in
      let zeroth = is 0 (omega arith) n (omega arith) in
      let first = is 1 (omega arith) (n + 1) refl in
      let second = is 2 (omega arith) (n + 2) refl in
      let third = is 3 (omega arith) (n + 3) refl in
      let fourth = is 4 (omega arith) (n + 4) refl in
      let fifth = is 5 (omega arith) (n + 5) refl in
      let sixth = is 6 (omega arith) (n + 6) refl in
      rw (put_is, zeroth, first, second, third, fourth, fifth, sixth)

  -- each other task its own
  at_other : (j : ℕ) → (j ≡ i → ⊥) → front_at (put_front xs i f) j ≡ front_at xs j
  at_other j other =
      let n : ℕ = 7 * j in
      let is : (c : ℕ) → c < 7 → (q : ℕ) → q ≡ n + c → get_or (sets xs (7 * i) numbers) q 0 ≡ get_or xs q 0 =
      λ c h q e. sets_other numbers xs (7 * i) q (λ k l d. other (omega (arith, d))) in
      let zeroth = is 0 (omega arith) n (omega arith) in
      let first = is 1 (omega arith) (n + 1) refl in
      let second = is 2 (omega arith) (n + 2) refl in
      let third = is 3 (omega arith) (n + 3) refl in
      let fourth = is 4 (omega arith) (n + 4) refl in
      let fifth = is 5 (omega arith) (n + 5) refl in
      let sixth = is 6 (omega arith) (n + 6) refl in
      rw (put_is, zeroth, first, second, third, fourth, fifth, sixth)

-- one front is stored, the others are as they were
pub fronts_put : (xs : List ℕ) → length xs ≡ 7 * tasks_limit → (i : ℕ) → i < tasks_limit → (f : Front) → fronts_in (put_front xs i f) ≡ set (fronts_in xs) i f
unfolding fronts_in
fronts_put xs long i h f =
    tabled_set no_front (front_at xs) (front_at (put_front xs i f)) tasks_limit i f h (at_same xs i f long h) (λ j l other. at_other xs i f j other)
