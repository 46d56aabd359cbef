-- Within a cycle the counts keep pace with the shares.
use Prim.Native.Nat.{ℕ, ◌+◌, ◌*◌, ◌/◌, ◌≤◌, ◌<◌}
use mathlib.Core.Path.{◌≡◌, ap, ◌∙◌}
use mathlib.Core.Logic.{◌↔◌}
use mathlib.Core.List.{List}
use native.Mathlib.Nat.{le-div_iff_mul-le, div-mul-le_self, mul_comm, mul-sub, le_trans, le_of_mul-le-mul_right, lt_of_mul-lt-mul_right, div-lt_iff_lt-mul, zero-add, sub-zero, sub-eq-zero_of_le}
use native.Mathlib.Decide.{ℕ_discrete}
use native.Mathlib.Omega.{arith}
use borrow.Author.Tests.{ltb-true, ltb-false}
use lib.Dec.{ltb}
use lib.ListN.{length, get_or, length-set, length-replicate, get_or-eq_default}
use lib.Seq.{get_or-set_same, get_or-set_other, ext_get_or}
use Rattle.lists.specs.Lists.{total, zeros}
use Rattle.lists.proofs.Tests.{by_cases}
use Rattle.lists.proofs.Lists.{sum_set, zeros_at, zeros_sum}
use Rattle.arith.proofs.Rounding.{ceil_least}
use Rattle.turn.specs.Turn.{due_place, more}
use Rattle.turn.proofs.Choice.{OpenAt, Picked, open_share}
use Rattle.turn.proofs.Behind.{gap, behind, behind_bound, behind_part, behind_more}

-- after t runs of a cycle: the counts sum to t, no core is a whole run ahead, and by any later place no more runs are due than there are places
pub record Pace (w t : ℕ) (ss ns : List ℕ) : Type 0 where
  pub same : length ns ≡ length ss
  pub all : total ns ≡ t
  pub ahead : (i : ℕ) → get_or ns i 0 * w < get_or ss i 0 * t + w
  pub late : (e : ℕ) → behind w (t + e) ss ns ≤ e

-- a core's next run is due by place d, if and only if it is behind there
due_by : (w s n d : ℕ) → 0 < w → 0 < s → (due_place w s n ≤ d) ↔ (n < s * d / w)
due_by w s n d pos h =
    let c = ceil_least ((n + 1) * w) s d h in (
      λ (l : due_place w s n ≤ d). let k : n + 1 ≤ s * d / w = (le-div_iff_mul-le pos).1 (omega (arith, c.0 l)) in omega arith,
      λ (l : n < s * d / w). let k : (n + 1) * w ≤ s * d = (le-div_iff_mul-le pos).0 (omega arith) in c.1 (omega arith),
    )

-- a closed core is behind by no more than what comes after the next place
gap_closed : (w s n t e : ℕ) → s * (t + 1) ≤ n * w → gap w (t + 1 + e) s n * w ≤ s * e
gap_closed w s n t e h =
    let q : s * (t + 1 + e) / w * w ≤ s * (t + 1 + e) = div-mul-le_self (s * (t + 1 + e)) w in
    rw (mul_comm (gap w (t + 1 + e) s n) w, mul-sub w (s * (t + 1 + e) / w) n) (omega arith)

module _ (w t : ℕ) (ss ns : List ℕ) (pos : 0 < w) (shares : total ss ≡ w) (p : Pace w t ss ns) (j : ℕ) (c : Picked w t ss ns (length ss) j) where
  -- with a run more of the chosen core none is a whole run ahead
  ahead_more : (i : ℕ) → get_or (more ns j) i 0 * w < get_or ss i 0 * (t + 1) + w
  ahead_more i = go (ℕ_discrete i j)
    where
      go : Dec (i ≡ j) → get_or (more ns j) i 0 * w < get_or ss i 0 * (t + 1) + w
      go (yes e) = rw (e, get_or-set_same ns j (get_or ns j 0 + 1) 0 (omega (arith, p.same, c.within))) (omega (arith, c.opened))
      go (no n) = rw (get_or-set_other ns j i (get_or ns j 0 + 1) 0 n) (omega (arith, p.ahead i))

  -- where the chosen core is not behind, no open core is
  gap_bound : (e : ℕ) → get_or ss j 0 * (t + 1 + e) / w ≤ get_or ns j 0 → (i : ℕ) → i < length ss
      → gap w (t + 1 + e) (get_or ss i 0) (get_or ns i 0) * w ≤ get_or ss i 0 * e
  gap_bound e q i l =
      by_cases (ltb (get_or ns i 0 * w) (get_or ss i 0 * (t + 1)))
      (λ o. is_open (ltb-true _ _ o))
      (λ o. gap_closed w (get_or ss i 0) (get_or ns i 0) t e (ltb-false _ _ o))
    where
      is_open : OpenAt w t ss ns i → gap w (t + 1 + e) (get_or ss i 0) (get_or ns i 0) * w ≤ get_or ss i 0 * e
      is_open o =
          by_cases (ltb (get_or ns i 0) (get_or ss i 0 * (t + 1 + e) / w))
          (λ b.
          let d = (due_by w (get_or ss i 0) (get_or ns i 0) (t + 1 + e) pos (open_share w t ss ns i o)).1 (ltb-true _ _ b) in
          absurd (omega (arith, (due_by w (get_or ss j 0) (get_or ns j 0) (t + 1 + e) pos (open_share w t ss ns j c.opened)).0 (le_trans (c.least i l o) d))))
          (λ b. rw (sub-eq-zero_of_le (ltb-false _ _ b)) (omega arith))

  -- and no more runs are due than there are places: the chosen core was behind and is less so, or no open core was
  late_more : (e : ℕ) → behind w (t + 1 + e) ss (more ns j) ≤ e
  late_more e =
      let m = behind_more w (t + 1 + e) ss ns j c.within (omega (arith, p.same, c.within)) in
      by_cases (ltb (get_or ns j 0) (get_or ss j 0 * (t + 1 + e) / w))
      (λ b.
      let f : t + (e + 1) ≡ t + 1 + e = omega arith in
      let h : behind w (t + 1 + e) ss ns ≤ e + 1 = rw f at (p.late (e + 1)) in
      omega (arith, ltb-true))
      (λ b.
      let h : behind w (t + 1 + e) ss ns * w ≤ e * w =
      omega (arith, behind_bound w (t + 1 + e) e ss ns (gap_bound e (ltb-false _ _ b)), ap (λ (x : ℕ). x * e) shares) in
      omega (arith, ltb-false, le_of_mul-le-mul_right h pos))

  -- a run of the chosen core
  pub pace_more : Pace w (t + 1) ss (more ns j)
  pace_more = record {
    same = length-set ns j (get_or ns j 0 + 1) ∙ p.same;
    all = omega (arith, sum_set ns j (get_or ns j 0 + 1) (omega (arith, p.same, c.within)), p.all);
    ahead = ahead_more;
    late = late_more;
  }

-- no run yet
pub pace_start : (w : ℕ) (ss : List ℕ) → 0 < w → total ss ≡ w → Pace w 0 ss (zeros (length ss))
pace_start w ss pos shares = record {
  same = length-replicate (length ss) 0;
  all = zeros_sum (length ss);
  ahead = λ i. rw (zeros_at (length ss) i) (omega arith);
  late = λ e.
      let each : (i : ℕ) → i < length ss → gap w (0 + e) (get_or ss i 0) (get_or (zeros (length ss)) i 0) * w ≤ get_or ss i 0 * e =
      λ i l. rw (zeros_at (length ss) i, zero-add e, sub-zero) (div-mul-le_self (get_or ss i 0 * e) w) in
      let h : behind w (0 + e) ss (zeros (length ss)) * w ≤ e * w =
      omega (arith, behind_bound w (0 + e) e ss (zeros (length ss)) each, ap (λ (x : ℕ). x * e) shares) in
      le_of_mul-le-mul_right h pos;
}

module _ (w t : ℕ) (ss ns : List ℕ) (pos : 0 < w) (p : Pace w t ss ns) where
  -- no core is a whole run behind
  pub pace_behind : (i : ℕ) → get_or ss i 0 * t < get_or ns i 0 * w + w
  pace_behind i =
      by_cases (ltb i (length ss))
      (λ b.
      let l : i < length ss = ltb-true i (length ss) b in
      let f : t + 0 ≡ t = omega arith in
      let h : gap w t (get_or ss i 0) (get_or ns i 0) ≤ 0 = rw f at (le_trans (behind_part w (t + 0) ss ns i l (omega (arith, p.same))) (p.late 0)) in
      let k : get_or ss i 0 * t / w < get_or ns i 0 + 1 = omega arith in
      omega (arith, (div-lt_iff_lt-mul pos).0 k))
      (λ b. rw (get_or-eq_default ss 0 (ltb-false i (length ss) b)) (omega arith))

-- a whole cycle of w runs gives each core its share
pub pace_whole : (w : ℕ) (ss ns : List ℕ) → 0 < w → Pace w w ss ns → ns ≡ ss
pace_whole w ss ns pos p =
    ext_get_or 0 ns ss p.same (λ i l.
    let a : get_or ns i 0 < get_or ss i 0 + 1 = lt_of_mul-lt-mul_right w (omega (arith, p.ahead i)) in
    let b : get_or ss i 0 < get_or ns i 0 + 1 = lt_of_mul-lt-mul_right w (omega (arith, pace_behind w w ss ns pos p i)) in
    omega arith)
