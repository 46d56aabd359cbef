-- How long an instant's choices last: the least that one of them still has to run.
use Prim.Native.Nat.{ℕ, zero, suc, ◌+◌, ◌≤◌, ◌<◌}
use mathlib.Core.Path.{◌≡◌}
use mathlib.Core.Bool.{Bool, ◌&&◌}
use mathlib.Core.List.{List}
use native.Mathlib.Omega.{arith}
use lib.Dec.{ltb, eqb}
use lib.ListN.{get_or}
use borrow.Author.Tests.{ltb-true, ltb-false, lt-ltb, eqb-true, eqb-false}
use Rattle.lists.proofs.Tests.{by_cases, and_left, and_right}
use Rattle.instants.specs.declared.Seen.{Seen}
use Rattle.instants.specs.Seen.{idle, least_left}

module _ (ss : List Seen) (v : ℕ) where
  -- core n has a choice with less to run than those before
  abbrev less : ℕ → Bool
  less n = ltb 0 (get_or ss n idle).task && ltb (get_or ss n idle).left (least_left ss v n)

  -- one core more asks no more
  least_down : (n : ℕ) → least_left ss v (suc n) ≤ least_left ss v n
  unfolding least_left
  least_down n =
      let x : ℕ = (get_or ss n idle).left in
      by_cases (less n)
      (λ e. rw e (omega (arith, ltb-true x (least_left ss v n) (and_right (ltb 0 (get_or ss n idle).task) _ e))))
      (λ e. rw e (omega arith))

  -- nor more than its choice has left
  least_here : (n : ℕ) → 0 < (get_or ss n idle).task → least_left ss v (suc n) ≤ (get_or ss n idle).left
  unfolding least_left
  least_here n h =
      let x : ℕ = (get_or ss n idle).left in
      rw (lt-ltb 0 (get_or ss n idle).task h)
      (by_cases (ltb x (least_left ss v n)) (λ e. rw e (omega arith)) (λ e. rw e (ltb-false x (least_left ss v n) e)))

  -- no more than is given
  pub least_most : (n : ℕ) → least_left ss v n ≤ v
  unfolding least_left
  least_most zero = omega arith
  least_most (suc n) = omega (arith, least_down n, least_most n)

  -- nor than any choice has left
  pub least_each : (n k : ℕ) → k < n → 0 < (get_or ss k idle).task → least_left ss v n ≤ (get_or ss k idle).left
  least_each zero k l h = absurd (omega arith)
  least_each (suc n) k l h =
      by_cases (eqb k n)
      (λ e. let same = eqb-true k n e in rw same (least_here n (rw same at h)))
      (λ e. omega (arith, least_down n, least_each n k (omega (arith, eqb-false k n e)) h))

  -- and no less than what neither is below
  pub least_from : (w n : ℕ) → w ≤ v → ((k : ℕ) → k < n → 0 < (get_or ss k idle).task → w ≤ (get_or ss k idle).left) → w ≤ least_left ss v n
  unfolding least_left
  least_from w zero p h = p
  least_from w (suc n) p h =
      by_cases (less n)
      (λ e. rw e (h n (omega arith) (ltb-true 0 (get_or ss n idle).task (and_left _ _ e))))
      (λ e. rw e (least_from w n p (λ k l. h k (omega arith))))

  -- so it is something, where each choice has something left
  pub least_some : (n : ℕ) → 0 < v → ((k : ℕ) → k < n → 0 < (get_or ss k idle).task → 0 < (get_or ss k idle).left) → 0 < least_left ss v n
  least_some n p h = least_from 1 n p h

module _ (ss : List Seen) (v n : ℕ) where
  -- where one tick more is given
  abbrev further : ℕ
  further = least_left ss (v + 1) n

  -- every choice has more left
  pub least_beyond : v < further → (k : ℕ) → k < n → 0 < (get_or ss k idle).task → v < (get_or ss k idle).left
  least_beyond a k l h = omega (arith, a, least_each ss (v + 1) n k l h)

  -- and all is given that was asked for
  pub least_whole : v < further → least_left ss v n ≡ v
  least_whole a =
      omega (arith, least_most ss v n, least_from ss v v n (omega arith) (λ k l h. omega (arith, least_beyond a k l h)))

  -- or nothing changes
  pub least_part : further ≤ v → least_left ss v n ≡ further
  least_part b =
      omega (
        arith,
        least_from ss (v + 1) (least_left ss v n) n (omega (arith, least_most ss v n)) (least_each ss v n),
        least_from ss v further n b (least_each ss (v + 1) n),
      )
