-- The runs that have the cores, read from a list of three numbers a core, and one of them stored.
use Prim.Native.Nat.{ℕ, ◌+◌, ◌*◌, ◌<◌}
use mathlib.Core.Path.{◌≡◌, refl, sym, ap, ◌∙◌}
use mathlib.Core.List.{List, [], ◌∷◌}
use native.Mathlib.Omega.{arith}
use native.Mathlib.Numerals.{unary_clauses}
use lib.ListN.{length, get_or, set, replicate, length-replicate, get_or-replicate}
use lib.Seq.{sets, length-sets}
use Rattle.lists.specs.Lists.{zeros}
use Rattle.lists.proofs.Lists.{zeros_at}
use Rattle.lists.proofs.Tabled.{tabled_long, tabled_at, tabled_same, tabled_set}
use Rattle.lent_numbers.proofs.Sets.{sets_other, sets_here}
use Rattle.units.specs.Limits.{cores_limit}
use Rattle.goings.specs.declared.Going.{Going}
use Rattle.goings.specs.Going.{no_going}
use Rattle.goings.specs.Rows.{going_at, goings_in, put_going}

pub goings_long : (xs : List ℕ) → length (goings_in xs) ≡ cores_limit
unfolding goings_in
goings_long xs = tabled_long (going_at xs) cores_limit

pub goings_at : (xs : List ℕ) (p : ℕ) → p < cores_limit → get_or (goings_in xs) p no_going ≡ going_at xs p
unfolding goings_in
goings_at xs p h = tabled_at no_going (going_at xs) cores_limit p h

module _ (xs : List ℕ) (p : ℕ) (g : Going) where
  -- its three numbers
  abbrev numbers : List ℕ
  numbers = g.task ∷ g.run ∷ g.from.0 ∷ []

  -- three stores are those of a run
  put_is : put_going xs p g ≡ sets xs (3 * p) numbers
  put_is = simp unary_clauses refl

  pub put_long : length (put_going xs p g) ≡ length xs
  put_long = ap (length {A = ℕ}) put_is ∙ length-sets xs (3 * p) numbers

  -- the core has that run
  at_same : length xs ≡ 3 * cores_limit → p < cores_limit → going_at (put_going xs p g) p ≡ g
  at_same wide h =
      let n : ℕ = 3 * p in
      let is : (k : ℕ) → k < 3 → (q : ℕ) → q ≡ n + k → get_or (sets xs n numbers) q 0 ≡ get_or numbers k 0 =
      λ k l q e. sets_here numbers xs n q k e l (omega (arith, wide)) in
      let zeroth = is 0 (omega arith) n (omega arith) in
      let first = is 1 (omega arith) (n + 1) refl in
      let second = is 2 (omega arith) (n + 2) refl in
      rw (put_is, zeroth, first, second)

  -- each other core its own
  at_other : (j : ℕ) → (j ≡ p → ⊥) → going_at (put_going xs p g) j ≡ going_at xs j
  at_other j other =
      let n : ℕ = 3 * j in
      let is : (c : ℕ) → c < 3 → (q : ℕ) → q ≡ n + c → get_or (sets xs (3 * p) numbers) q 0 ≡ get_or xs q 0 =
      λ c h q e. sets_other numbers xs (3 * p) q (λ k l d. other (omega (arith, d))) in
      let zeroth = is 0 (omega arith) n (omega arith) in
      let first = is 1 (omega arith) (n + 1) refl in
      let second = is 2 (omega arith) (n + 2) refl in
      rw (put_is, zeroth, first, second)

pub goings_put : (xs : List ℕ) → length xs ≡ 3 * cores_limit → (p : ℕ) → p < cores_limit → (g : Going) → goings_in (put_going xs p g) ≡ set (goings_in xs) p g
unfolding goings_in
goings_put xs wide p h g =
    tabled_set no_going (going_at xs) (going_at (put_going xs p g)) cores_limit p g h (at_same xs p g wide h) (λ j l other. at_other xs p g j other)

pub goings_none : goings_in (zeros (3 * cores_limit)) ≡ replicate cores_limit no_going
unfolding goings_in
goings_none =
    tabled_same no_going (going_at (zeros (3 * cores_limit))) (replicate cores_limit no_going) cores_limit (length-replicate cores_limit no_going)
    (λ p h. rw (zeros_at (3 * cores_limit) (3 * p), zeros_at (3 * cores_limit) (3 * p + 1), zeros_at (3 * cores_limit) (3 * p + 2))
    (sym (get_or-replicate cores_limit p no_going no_going h)))
