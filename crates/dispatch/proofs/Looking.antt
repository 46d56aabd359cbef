-- The best task for a core, and the choice that it is.
use Prim.Native.Nat.{ℕ, zero, suc, ◌+◌, ◌-◌, ◌≤◌, ◌<◌}
use mathlib.Core.Path.{◌≡◌}
use mathlib.Core.Bool.{false}
use native.Mathlib.Numerals.{add-one}
use native.Mathlib.Omega.{arith}
use borrow.Author.Tests.{eq-eqb, ltb-true, ltb-false}
use lib.Dec.{ltb}
use Rattle.units.specs.Limits.{tasks_limit}
use Rattle.lists.proofs.Tests.{by_cases}
use Rattle.soundness.proofs.Facts.{tasks_few}
use Rattle.task_state.specs.Key.{deadline_of, waits}
use Rattle.dispatch.specs.declared.Record.{Record}
use Rattle.core_choice.specs.declared.Best.{Best}
use Rattle.core_choice.specs.declared.Told.{Told}
use Rattle.core_choice.specs.declared.Choice.TheVariants.{Idle}
use Rattle.dispatch.specs.Record.{line_at, state_at}
use Rattle.core_choice.specs.Choice.{better_task, choice_by}
use Rattle.core_choice.specs.Told.{told_of}
use Rattle.dispatch.specs.Look.{best_of, choice_for, choice_of}
use Rattle.dispatch.proofs.SoundFacts.{SoundFacts, waits_in}
use Rattle.dispatch.proofs.Search.{Found, found}

-- one task more
pub best_more : (r : Record) (k n : ℕ) {b x : Best} → b ≡ best_of r k n → x ≡ better_task b (n + 1) (line_at r n) (state_at r n) k r.clock.0
    → x ≡ best_of r k (n + 1)
unfolding best_of
best_more r k n e q = rw (add-one n, ← e) (rw (add-one n) at q)

module _ (r : Record) (s : SoundFacts r) (k : ℕ) where
  -- past the N tasks none waits
  none_waits : (i : ℕ) → r.plan.count ≤ i → i < tasks_limit → waits (line_at r i) (state_at r i) k r.clock.0 ≡ false
  none_waits i h l = by_cases (waits (line_at r i) (state_at r i) k r.clock.0) (λ w. absurd (omega (arith, waits_in r s i k l w))) (λ w. w)

  -- so none is better
  best_past : (n : ℕ) → r.plan.count ≤ n → n ≤ tasks_limit → best_of r k n ≡ best_of r k r.plan.count
  unfolding best_of
  best_past zero h l = let e : r.plan.count ≡ 0 = omega (arith, h) in rw e
  best_past (suc n) h l =
      by_cases (ltb n r.plan.count)
      (λ b. let e : r.plan.count ≡ suc n = omega (arith, h, ltb-true n r.plan.count b) in rw e)
      (λ b. let m = ltb-false n r.plan.count b in rw (none_waits n m (omega (arith, l))) (best_past n m (omega (arith, l))))

  -- and the best of them is the best of all
  pub best_of_all : best_of r k tasks_limit ≡ best_of r k r.plan.count
  best_of_all = best_past tasks_limit (tasks_few r.plan s.plan) (omega arith)

-- the best is one of them, or none
found_below : (r : Record) (k n task key : ℕ) → Found r k n task key → task ≤ n
found_below r k n zero key f = omega arith
found_below r k n (suc j) key f = omega (arith, f.1.within)

module _ (r : Record) (k : ℕ) {b : Best} (e : b ≡ best_of r k tasks_limit) where
  pub best_task : b.task ≤ tasks_limit
  best_task = let x = best_of r k tasks_limit in rw e (found_below r k tasks_limit x.task x.key (found r k tasks_limit))

  -- nobody waits
  pub told_idle : b.task ≡ 0 → told_of Idle ≡ told_of (choice_of r k)
  unfolding choice_of choice_for
  told_idle z = rw (← e, eq-eqb b.task 0 z)

  -- the choice that the best task is
  pub told_by : {n : Told} → n ≡ told_of (choice_by b (deadline_of (state_at r (b.task - 1)))) → n ≡ told_of (choice_of r k)
  unfolding choice_of choice_for
  told_by q = rw (← e) q
