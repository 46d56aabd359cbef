-- The common period and the weights of a table, and what they are of one that is taken.
use Prim.Native.Nat.{ℕ, zero, suc, ◌+◌, ◌*◌, ◌/◌, ◌≤◌, ◌<◌, ◌∣◌}
use mathlib.Core.Path.{◌≡◌, refl}
use mathlib.Core.List.{List, [], ◌∷◌}
use native.Mathlib.Nat.{div-mul_cancel, dvd-mul_left_of_dvd, mul-pos, pos_of_ne-zero, le_of_dvd, mul-le-mul, mul-le-mul_right, le_of_mul-le-mul_right, le_trans}
use native.Mathlib.Omega.{arith}
use lib.ListN.{length, get_or}
use Rattle.units.specs.Limits.{cores_limit, tasks_limit, common_limit}
use Rattle.lists.specs.Lists.{total, most}
use Rattle.arith.specs.Period.{periods}
use Rattle.arith.proofs.Common.{common_each, common_least, common_pos}
use Rattle.arith.proofs.Table.{periods_at, periods_length}
use Rattle.admission.specs.Weight.{weights, padded}
use Rattle.admission.specs.Words.{tasks, cost, period, common_of, weights_of, weight_of}
use Rattle.admission.specs.Given.{Taken}
use Rattle.admission.proofs.Gives.{periods_some}
use Rattle.admission.proofs.Padded.{padded_sum, padded_most, padded_length, most_within}

-- a weight for each task
pub weights_length : (l : ℕ) (xs : List ℕ) → length (weights l xs) ≡ tasks xs
weights_length l [] = refl
weights_length l (c ∷ []) = refl
weights_length l (c ∷ t ∷ xs) = omega (arith, weights_length l xs)

-- each is C × L / T
pub weights_at : (l : ℕ) (xs : List ℕ) (k : ℕ) → k < tasks xs → get_or (weights l xs) k 0 ≡ cost xs k * l / period xs k
weights_at l [] k h = absurd (omega arith)
weights_at l (c ∷ []) k h = absurd (omega arith)
weights_at l (c ∷ t ∷ xs) zero h = refl
weights_at l (c ∷ t ∷ xs) (suc k) h =
    let a : 2 * suc k ≡ suc (suc (2 * k)) = omega arith in
    let b : 2 * suc k + 1 ≡ suc (suc (2 * k + 1)) = omega arith in
    rw (b, a) (weights_at l xs k (omega arith))

-- each period divides the common period
pub common_multiple : (xs : List ℕ) (k : ℕ) → k < tasks xs → period xs k ∣ common_of xs
common_multiple xs k h = rw (← (periods_at xs k)) (common_each (periods xs) k (omega (arith, periods_length xs)))

-- which divides every number that all periods divide
pub common_divides : (xs : List ℕ) (n : ℕ) → ((k : ℕ) → k < tasks xs → period xs k ∣ n) → common_of xs ∣ n
common_divides xs n d = common_least (periods xs) n (λ k h. rw (periods_at xs k) (d k (omega (arith, periods_length xs))))

-- so it is the least
pub common_smallest : (xs : List ℕ) (n : ℕ) → 0 < n → ((k : ℕ) → k < tasks xs → period xs k ∣ n) → common_of xs ≤ n
common_smallest xs n h d = le_of_dvd h (common_divides xs n d)

-- the weight is C × L / T with no remainder, whatever the table
pub weight_exact : (xs : List ℕ) (k : ℕ) → k < tasks xs → weight_of xs k * period xs k ≡ cost xs k * common_of xs
weight_exact xs k h =
    rw (weights_at (common_of xs) xs k h)
    (div-mul_cancel (period xs k) (dvd-mul_left_of_dvd (period xs k) (common_multiple xs k h) (cost xs k)))

module _ (m : ℕ) (xs : List ℕ) (t : Taken m xs) where
  -- the common period L: 1 to 1,000,000
  pub common_range : (0 < common_of xs) × (common_of xs ≤ common_limit)
  common_range = (common_pos (periods xs) (periods_some xs t.ranges), t.within)

  -- 1 to L
  pub weight_range : (k : ℕ) → k < tasks xs → (0 < weight_of xs k) × (weight_of xs k ≤ common_of xs)
  weight_range k h =
      let e = weight_exact xs k h in
      let some : 0 < cost xs k * common_of xs = mul-pos (t.ranges k h).0 common_range.0 in
      let c : cost xs k * common_of xs ≤ period xs k * common_of xs = mul-le-mul_right (common_of xs) (t.costs k h) in (
        pos_of_ne-zero (λ z. let y : weight_of xs k * period xs k ≡ 0 = rw z (omega arith) in absurd (omega arith)),
        le_of_mul-le-mul_right {m = weight_of xs k} {n = common_of xs} {k = period xs k} (omega arith) (t.ranges k h).1,
      )

  -- sixty-four weights, none above L, that together are no more than M × L
  pub padded_kept : (length (padded (weights_of xs)) ≡ tasks_limit) × (most (padded (weights_of xs)) ≤ common_of xs) ×
      (total (padded (weights_of xs)) ≤ m * common_of xs)
  padded_kept =
      let n = weights_length (common_of xs) xs in (
        padded_length (weights_of xs) (omega (arith, t.table)),
        rw (padded_most (weights_of xs)) (most_within (common_of xs) (weights_of xs) (λ k h. (weight_range k (omega arith)).1)),
        rw (padded_sum (weights_of xs)) t.fit,
      )

  -- all together weigh at most the largest sum, sixteen whole cores
  pub weights_largest : total (weights_of xs) ≤ cores_limit * common_limit
  weights_largest = le_trans t.fit (mul-le-mul t.cores.1 t.within)
