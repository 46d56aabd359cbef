-- How long a listing may be.
use Prim.Native.Nat.{ℕ, zero, suc, ◌+◌, ◌*◌, ◌≤◌}
use mathlib.Core.Path.{◌≡◌}
use mathlib.Core.Bool.{true}
use mathlib.Core.List.{List, [], ◌∷◌, ◌++◌}
use native.Mathlib.Omega.{arith}
use lib.Dec.{leb, eqb}
use lib.IntN.{ℤ, pos, negsuc}
use lib.Signed.{le_z}
use lib.ListN.{length, get_or, length-append}
use borrow.Author.Tests.{leb-true, le-leb}
use Rattle.units.specs.Limits.{cores_limit, tasks_limit, period_limit, common_limit}
use Rattle.units.proofs.Units.{nums_long}
use Rattle.lists.specs.Lists.{total}
use Rattle.lists.proofs.Tests.{by_cases}
use Rattle.writing.specs.Decimal.{decimal_of, signed_of}
use Rattle.writing.proofs.Decimal.{decimal_length}
use Rattle.task_shares.specs.Movers.{moves}
use Rattle.planning.specs.declared.Line.{Line}
use Rattle.planning.specs.declared.Plan.{Plan}
use Rattle.planning.specs.Plan.{no_line, row_of}
use Rattle.planning.specs.Kept.{PlanKept}
use Rattle.lateness.specs.Lateness.{lates_of}
use Rattle.lateness.proofs.Range.{late_range}
use Rattle.soundness.specs.Plan.{plan_sound}
use Rattle.soundness.proofs.Facts.{tasks_few, weight_small, shares_sum}
use Rattle.dispatch.specs.declared.Record.{Record}
use Rattle.dispatch.specs.Sound.{sound_of}
use Rattle.dispatch.specs.Shape.{Good}
use Rattle.planning.specs.Shape.{PlanShaped}
use Rattle.soundness.proofs.SoundKept.{sound_kept}
use Rattle.dispatch.proofs.SoundFacts.{sound_facts}
use Rattle.listing.specs.Listed.{listing_limit, listed_whole, plan_listed, listed_of}
use Rattle.writing.specs.Field.{field, line_end}
use Rattle.listing.specs.Listing.{share_text, shares_text, head_text, row_text, late_text, task_text, tasks_text, listing_text}

-- a share of at most 1,000,000 on one of sixteen cores
share_length : (p s : ℕ) → p ≤ cores_limit → s ≤ common_limit → length (share_text p s) ≤ 11
share_length p s h k =
    by_cases (eqb s 0)
    (λ e. rw e (omega arith))
    (λ e. rw (e, length-append (field " " p) (field ":" s)) (omega (arith, decimal_length 1 p (omega arith), decimal_length 6 s (omega arith))))

-- a row of such shares
shares_length : (p : ℕ) (ss : List ℕ) → p + length ss ≤ suc cores_limit → total ss ≤ common_limit → length (shares_text p ss) ≤ 11 * length ss
shares_length p [] h k = omega arith
shares_length p (s ∷ ss) h k =
    rw (length-append (share_text p s) (shares_text (suc p) ss))
    (omega (arith, share_length p s (omega arith) (omega arith), shares_length (suc p) ss (omega arith) (omega arith)))

-- whether a task moves, and its shares
row_length : (row : List ℕ) → length row ≤ cores_limit → total row ≤ common_limit → length (row_text row) ≤ 182
unfolding row_text
row_length row h k =
    by_cases (moves row)
    (λ e. rw e (omega (arith, shares_length 1 row (omega arith) k)))
    (λ e. rw e (omega (arith, shares_length 1 row (omega arith) k)))

-- a bound from -1,000,000 to 1,000,000,000
late_length : (z : ℤ) → le_z (negsuc 999999) z ≡ true → le_z z (pos 1000000000) ≡ true → length (late_text z) ≤ 17
unfolding late_text signed_of
late_length (pos n) h k = rw (length-append (decimal_of n) line_end) (omega (arith, decimal_length 9 n (omega (arith, leb-true n 1000000000 k))))
late_length (negsuc n) h k = rw (length-append (decimal_of (suc n)) line_end) (omega (arith, decimal_length 6 (suc n) (omega (arith, leb-true n 999999 h))))

-- a task's number, cost, period and weight
head_length : (i : ℕ) (ln : Line) → i ≤ tasks_limit → ln.cost.0 ≤ period_limit → ln.period.0 ≤ period_limit → ln.weight.0 ≤ common_limit
    → length (head_text i ln) ≤ 50
unfolding head_text
head_length i ln h c t w =
    let a = field "task " i in
    let b = field " cost " ln.cost.0 in
    let d = field " period " ln.period.0 in
    let e = field " weight " ln.weight.0 in
    rw (length-append (a ++ b ++ d) e, length-append (a ++ b) d, length-append a b)
    (omega (
      arith,
      decimal_length 1 i (omega arith),
      decimal_length 6 ln.cost.0 (omega arith),
      decimal_length 6 ln.period.0
          (omega arith),
      decimal_length 6 ln.weight.0 (omega arith),
    ))

-- a task's line
task_length : (i : ℕ) (ln : Line) (z : ℤ) → length (head_text i ln) ≤ 50 → length (row_text (row_of ln)) ≤ 182 → length (late_text z) ≤ 17
    → length (task_text i ln z) ≤ 249
unfolding task_text
task_length i ln z h r l =
    rw (length-append (head_text i ln ++ row_text (row_of ln)) (late_text z), length-append (head_text i ln) (row_text (row_of ln))) (omega arith)

module _ (pl : Plan) (long : PlanShaped pl) (s : plan_sound pl ≡ true) where
  -- what it keeps
  k : PlanKept pl
  k = sound_kept pl long s

  -- the lines of its tasks
  tasks_length : (n : ℕ) → n ≤ pl.count → length (tasks_text pl.lines (lates_of pl) n) ≤ 249 * n
  unfolding tasks_text
  tasks_length zero h = omega arith
  tasks_length (suc n) h =
      let ln = get_or pl.lines n no_line in
      let z = get_or (lates_of pl) n (pos 0) in
      let w = weight_small pl s n (omega arith) in
      let row = nums_long ln.shares cores_limit (long.shares n (omega (arith, tasks_few pl s))) in
      rw (length-append (tasks_text pl.lines (lates_of pl) n) (task_text (suc n) ln z))
      (omega (
        arith,
        tasks_length n (omega arith),
        task_length (suc n) ln z
            (head_length (suc n) ln (omega (arith, tasks_few pl s)) (k.costs n) (k.periods n) w)
            (row_length (row_of ln) (omega (arith, row)) (omega (arith, w, shares_sum pl s n (omega arith))))
            (late_length z (late_range pl k n).0 (late_range pl k n).1),
      ))

  -- the listing of a sound plan
  pub listing_length : length (listing_text pl) ≤ listing_limit
  unfolding listing_text
  listing_length =
      let a = field "cores " pl.cores in
      let b = field " common " pl.common in
      let t = tasks_text pl.lines (lates_of pl) pl.count in
      rw (length-append (a ++ b ++ line_end) t, length-append (a ++ b) line_end, length-append a b)
      (omega (
        arith,
        decimal_length 1 pl.cores (omega (arith, k.cores_few)),
        decimal_length 6 pl.common (omega (arith, k.common_small)),
        tasks_length pl.count (omega arith),
        tasks_few pl s,
      ))

-- so a sound record is listed in any buffer of so many bytes
pub fits : (r : Record) → Good r → (room : ℕ) → listing_limit ≤ room → listed_of r room ≡ listed_whole (length (listing_text r.plan))
unfolding listed_of plan_listed
fits r g room h =
    let f = listing_length r.plan g.shaped.plan (sound_facts r g.sound).plan in
    rw (g.sound, le-leb (length (listing_text r.plan)) room (omega (arith, f)))

-- the length that is answered is small, refused or not
pub listed_length : (r : Record) (room : ℕ) → PlanShaped r.plan → (listed_of r room).length ≤ listing_limit
unfolding listed_of plan_listed
listed_length r room long =
    by_cases (sound_of r)
    (λ e. by_cases (leb (length (listing_text r.plan)) room)
    (λ h. rw (e, h) (listing_length r.plan long (sound_facts r e).plan))
    (λ h. rw (e, h) (omega arith)))
    (λ e. rw e (omega arith))
