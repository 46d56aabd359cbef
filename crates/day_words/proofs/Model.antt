-- A rehearsal's tick, step by step, is the model's.
use Prim.Native.Nat.{ℕ, suc, ◌+◌, ◌≤◌, ◌<◌}
use mathlib.Core.Path.{◌≡◌, refl, ap, subst}
use mathlib.Core.List.{List}
use native.Mathlib.Omega.{arith}
use Rattle.units.specs.Limits.{clock_limit}
use Rattle.planning.specs.declared.Plan.{Plan}
use Rattle.arrivals.specs.Arrivals.{arrivals_in}
use Rattle.day_rules.specs.Day.{day_at, runs_on}
use Rattle.day.specs.Desk.{Desk, run_of, arrived_by, looked_at, ran_on, ended_by, desk_at}
use Rattle.day.proofs.Stands.{Stands, Resting, Ending, ending_start}
use Rattle.day.proofs.At.{Fine, ending_all, arrived_stands, lasts_one, cores_wide, stands_at}
use Rattle.day.proofs.Day.{Is, is_arrivals, is_looks, is_runs, is_ends, is_at}
use Rattle.day_words.specs.Words.{arrived_to, looked_to, finished_to, has_in}

module _ (pl : Plan) (xs : List ℕ) where
  -- tick t's desk, n arrivals taken
  abbrev pub came_to : ℕ → ℕ → Desk
  came_to t n = arrived_by pl xs t n (desk_at pl xs t)

  -- and all of them
  abbrev pub came : ℕ → Desk
  came t = came_to t (arrivals_in xs)

  -- and n cores looked at
  abbrev pub saw_to : ℕ → ℕ → Desk
  saw_to t n = looked_at pl t n (came t)

  -- and all of these, and a tick run
  abbrev pub ran_in : ℕ → Desk
  ran_in t = ran_on 1 pl.cores (saw_to t pl.cores)

  -- and the finishes of n cores
  abbrev pub end_to : ℕ → ℕ → Desk
  end_to t n = ended_by (suc t) n (ran_in t)

  -- the desk of the next instant
  pub desk_next : (t : ℕ) → desk_at pl xs (suc t) ≡ end_to t pl.cores
  unfolding desk_at
  desk_next t = let e : t + 1 ≡ suc t = omega arith in rw e refl

  module _ (f : Fine pl xs) (t : ℕ) (l : t < clock_limit) where
    -- it stands with its arrivals
    pub came_stands : (n : ℕ) → n ≤ arrivals_in xs → Stands pl t (came_to t n) × Resting pl t (came_to t n)
    came_stands n k = let a = stands_at pl xs f t (omega (arith, l)) in arrived_stands pl xs f t n (desk_at pl xs t) k a.0 a.1

    pub ending_ran : Ending pl (suc t) 0 (ran_in t)
    ending_ran =
        let on = came_stands (arrivals_in xs) (omega arith) in
        let one : t + 1 ≡ suc t = omega arith in
        subst (λ (u : ℕ). Ending pl u 0 (ran_in t)) one
        (ending_start pl t (came t) on.0 on.1 1 (omega arith) (omega (arith, l)) (lasts_one pl xs f t (came t) on.0 on.1) (cores_wide pl xs f))

    pub ending_to : (n : ℕ) → n ≤ pl.cores → Ending pl (suc t) n (end_to t n)
    ending_to n k = ending_all pl (suc t) n (ran_in t) k ending_ran

    -- each step is the model's
    pub is_came : (n : ℕ) → n ≤ arrivals_in xs → Is pl t (arrived_to pl xs t n) (came_to t n)
    is_came n k = is_arrivals pl xs f t n (day_at pl xs t) (desk_at pl xs t) (omega (arith, l)) k (is_at pl xs f t (omega (arith, l)))

    pub is_saw : (n : ℕ) → n ≤ pl.cores → Is pl t (looked_to pl xs t n) (saw_to t n)
    is_saw n k = is_looks pl xs f t n (arrived_to pl xs t (arrivals_in xs)) (came t) (omega (arith, l)) k (is_came (arrivals_in xs) (omega arith))

    pub is_end_to : (n : ℕ) → n ≤ pl.cores → Is pl (suc t) (finished_to pl xs t n) (end_to t n)
    is_end_to n k =
        let d = looked_to pl xs t pl.cores in
        is_ends pl xs f (suc t) n (runs_on pl.cores d) (ran_in t) l k ending_ran
        (is_runs pl t pl.cores d (saw_to t pl.cores) (is_saw pl.cores (omega arith)))

    -- the run that a core has
    pub has_is : (p : ℕ) → has_in pl xs t p ≡ run_of (saw_to t pl.cores) p
    unfolding has_in
    has_is p = ap (λ (d : Desk). run_of d p) (is_saw pl.cores (omega arith)).desk

  -- what was said
  pub said_is : Fine pl xs → (t : ℕ) → t ≤ clock_limit → (day_at pl xs t).said ≡ (desk_at pl xs t).said
  said_is f t l = ap (λ (d : Desk). d.said) (is_at pl xs f t l).desk
