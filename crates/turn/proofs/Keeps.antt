-- The turn step keeps what a sound record says of a task's counts and place, and answers a core where the task has a share.
use Prim.Native.Nat.{ℕ, suc, ◌+◌, ◌-◌, ◌≤◌, ◌<◌}
use mathlib.Core.Path.{◌≡◌, refl, ◌∙◌}
use mathlib.Core.List.{List}
use native.Mathlib.Omega.{arith}
use borrow.Author.Tests.{eqb-false}
use lib.Dec.{eqb}
use lib.ListN.{length, get_or, length-set}
use Rattle.units.specs.Limits.{cores_limit}
use Rattle.lists.specs.Lists.{total}
use Rattle.lists.proofs.Tests.{by_cases}
use Rattle.lists.proofs.Lists.{sum_set, zeros_sum}
use Rattle.turn.specs.declared.Turn.{Turn}
use Rattle.turn.specs.Turn.{counted, turn_of}
use Rattle.turn.specs.Inner.{Turnable}
use Rattle.turn.proofs.Choice.{open_share, turn_choice}

-- what the step hands on
pub record Kept (w : ℕ) (ss : List ℕ) (r : Turn) : Type 0 where
  pub long : length r.counts ≡ cores_limit
  pub counts : total r.counts ≡ r.place
  pub below : r.place < w
  pub from : 0 < r.core
  pub to : r.core ≤ cores_limit
  pub share : 0 < get_or ss (r.core - 1) 0

module _ (w t : ℕ) (ss ns : List ℕ) (a : Turnable w t ss ns) (wide : length ss ≡ cores_limit) (long : length ns ≡ cores_limit) where
  -- and it does
  pub turn_keeps : Kept w ss (turn_of w t ss ns)
  unfolding turn_of counted
  turn_keeps =
      let x = turn_choice w t ss ns a wide long in
      let j = x.0 in
      let back : suc j - 1 ≡ j = omega arith in
      let share : 0 < get_or ss (suc j - 1) 0 = rw back (open_share w t ss ns j x.2.opened) in
      let to : suc j ≤ cores_limit = omega (arith, x.2.within) in
      rw x.1
      (by_cases (eqb (t + 1) w)
      (λ e. rw e (record { long = refl; counts = zeros_sum cores_limit; below = omega (arith, a.below); from = omega arith; to = to; share = share }))
      (λ e. rw e (record {
        long = length-set ns j (get_or ns j 0 + 1) ∙ long;
        counts = omega (arith, sum_set ns j (get_or ns j 0 + 1) (omega arith), a.counts);
        below = omega (arith, a.below, eqb-false (t + 1) w e);
        from = omega arith;
        to = to;
        share = share;
      })))

  -- so the step can be asked for the next run
  pub turn_again : Turnable w (turn_of w t ss ns).place ss (turn_of w t ss ns).counts
  turn_again = record { small = a.small; below = turn_keeps.below; shares = a.shares; counts = turn_keeps.counts }
