-- A day to which the laws apply: three tasks of cost 2 and period 3 on two cores, each comes once, at 0.
use Prim.Native.Nat.{ℕ, zero, suc, ◌≤◌, ◌<◌}
use mathlib.Core.Path.{◌≡◌, refl}
use mathlib.Core.Bool.{true}
use mathlib.Core.List.Memᴰ
use mathlib.Core.List.{List, [], ◌∷◌}
use native.Mathlib.Omega.{arith}
use lib.IntN.{negsuc}
use Rattle.units.specs.Limits.{period_limit}
use Rattle.units.specs.Units.{ticks}
use Rattle.planning.specs.declared.Plan.{Plan}
use Rattle.planning.specs.Plan.{plan_of}
use Rattle.soundness.specs.Plan.{plan_sound}
use Rattle.soundness.proofs.PlannedShape.{started_plan}
use Rattle.arrivals.specs.Arrivals.{arrival_task, arrival_length}
use Rattle.run_lengths.specs.Work.{fresh_work, with_length, without_length}
use Rattle.day_lines.specs.declared.Event.TheVariants.{Finished}
use Rattle.day_rules.specs.Day.{start_day, ran, taken, look_at, run_on, finished, day_at, events_of}
use Rattle.day.proofs.At.{Fine}
use Rattle.day.proofs.Example.{three_jobs}
use Rattle.release_order.proofs.Example.{defs}
use Rattle.day_words.specs.Words.{Among, has_in, ticks_of, accepted, length_of, FirstHad, Rising}
use Rattle.day_words.proofs.Finishes.{finished_first}

abbrev thrice : Plan
thrice = (plan_of 2 (2 ∷ 3 ∷ 2 ∷ 3 ∷ 2 ∷ 3 ∷ [])).plan

abbrev once : List ℕ
once = 0 ∷ 1 ∷ 2 ∷ 0 ∷ 2 ∷ 2 ∷ 0 ∷ 3 ∷ 2 ∷ []

-- core 1 has task 3's run in both ticks before its finish, its length
three_ticks : ticks_of thrice once 0 3 1 2 ≡ 2
unfolding defs day_at start_day taken look_at run_on finished fresh_work with_length without_length has_in
three_ticks = refl

three_length : length_of thrice once 4 3 1 ≡ 2
unfolding defs day_at start_day taken look_at run_on finished fresh_work with_length without_length accepted
three_length = refl

-- all tests pass
sound : plan_sound thrice ≡ true
unfolding defs
sound = refl

accepts : (plan_of 2 (2 ∷ 3 ∷ 2 ∷ 3 ∷ 2 ∷ 3 ∷ [])).refusal.no ≡ 0
unfolding defs
accepts = refl

three : thrice.count ≡ 3
unfolding defs
three = refl

pub fine : Fine thrice once
fine = record {
  shaped = started_plan 2 (2 ∷ 3 ∷ 2 ∷ 3 ∷ 2 ∷ 3 ∷ []) accepts;
  sound = sound;
  from = from;
  to = to;
  some = some;
  fits = fits;
}
  where
    from : (k : ℕ) → k < 3 → 1 ≤ arrival_task once k
    from zero l = omega arith
    from (suc zero) l = omega arith
    from (suc (suc zero)) l = omega arith
    from (suc (suc (suc k))) l = absurd (omega (arith, l))

    to : (k : ℕ) → k < 3 → arrival_task once k ≤ thrice.count
    to zero l = rw three (omega arith)
    to (suc zero) l = rw three (omega arith)
    to (suc (suc zero)) l = rw three (omega arith)
    to (suc (suc (suc k))) l = absurd (omega (arith, l))

    some : (k : ℕ) → k < 3 → 1 ≤ arrival_length once k
    some zero l = omega arith
    some (suc zero) l = omega arith
    some (suc (suc zero)) l = omega arith
    some (suc (suc (suc k))) l = absurd (omega (arith, l))

    fits : (k : ℕ) → k < 3 → arrival_length once k ≤ period_limit
    fits zero l = omega arith
    fits (suc zero) l = omega arith
    fits (suc (suc zero)) l = omega arith
    fits (suc (suc (suc k))) l = absurd (omega (arith, l))

pub rising : Rising once
rising zero l = omega arith
rising (suc zero) l = omega arith
rising (suc (suc k)) l = absurd (omega (arith, l))

-- so the finish at 2 is said, and is the first instant at which its run has had its length
pub first : FirstHad thrice once 4 0 3 1 2
first = finished_first thrice once fine 4 (omega arith) 0 3 1 2 (negsuc 0) among
  where
    among : Among (Finished (ran 0 3 1) (ticks 2) (negsuc 0)) (events_of thrice once 4)
    among = rw three_jobs (Memᴰ.head refl)
