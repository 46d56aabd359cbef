-- The next release time ahead of all tasks.
use Prim.Native.Nat.{ℕ, zero, suc, ◌+◌, ◌*◌, ◌≤◌, ◌<◌}
use mathlib.Core.Path.{◌≡◌}
use mathlib.Core.List.{List}
use native.Mathlib.Omega.{arith}
use lib.Dec.{eqb}
use lib.ListN.{get_or}
use borrow.Author.Tests.{eqb-true, eqb-false}
use Rattle.lists.proofs.Tests.{by_cases}
use Rattle.fronts.specs.declared.Front.{Front}
use Rattle.fronts.specs.Front.{no_front, ahead_of}
use Rattle.fronts.proofs.Ahead.{ahead_some, ahead_most, ahead_first}
use Rattle.instants.specs.Seen.{next_of}

module _ (fs : List Front) (t v : ℕ) where
  -- what is answered lies ahead, where the given instant does
  pub next_some : (n : ℕ) → t < v → t < next_of fs t v n
  unfolding next_of
  next_some zero h = h
  next_some (suc n) h = ahead_some (get_or fs n no_front) t (next_of fs t v n) (next_some n h)

  -- and is no later than that
  pub next_most : (n : ℕ) → next_of fs t v n ≤ v
  unfolding next_of
  next_most zero = omega arith
  next_most (suc n) = omega (arith, ahead_most (get_or fs n no_front) t (next_of fs t v n), next_most n)

  -- nor than what any task asks for
  pub next_each : (n i : ℕ) → i < n → next_of fs t v n ≤ ahead_of (get_or fs i no_front) t (next_of fs t v i)
  unfolding next_of
  next_each zero i h = absurd (omega arith)
  next_each (suc n) i h =
      by_cases (eqb i n)
      (λ e. rw (eqb-true i n e) (omega arith))
      (λ e. omega (arith, ahead_most (get_or fs n no_front) t (next_of fs t v n), next_each n i (omega (arith, eqb-false i n e))))

  -- nor than any release time ahead
  pub next_first : (n i x q : ℕ) → i < n → t < x → x + q * (get_or fs i no_front).period ≡ (get_or fs i no_front).last.0 → 0 < (get_or fs i no_front).period
      → next_of fs t v n ≤ x
  next_first n i x q l h e p = omega (arith, next_each n i l, ahead_first (get_or fs i no_front) t (next_of fs t v i) x q h e p)
