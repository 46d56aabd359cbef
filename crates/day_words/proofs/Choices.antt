-- In each tick each core has its choice.
use Prim.Native.Nat.{ℕ, suc, ◌≤◌, ◌<◌}
use mathlib.Core.Path.{◌≡◌, refl, sym, ap, ◌∙◌}
use mathlib.Core.List.{List}
use native.Mathlib.Omega.{arith}
use Rattle.units.specs.Limits.{clock_limit}
use Rattle.planning.specs.declared.Plan.{Plan}
use Rattle.core_choice.specs.Told.{choice_task}
use Rattle.dispatch.specs.Look.{look_of}
use Rattle.dispatch.proofs.Answers.{look_taken}
use Rattle.arrivals.specs.Arrivals.{arrivals_in}
use Rattle.goings.specs.declared.Going.{Going}
use Rattle.goings.specs.Going.{going_of}
use Rattle.day_rules.specs.Day.{Day, oldest_of}
use Rattle.day.specs.Desk.{Desk, run_of, choice_at, number_of}
use Rattle.day.proofs.Looked.{goes_task, goes_run, choice_by_lem, number_by, looked_states, looked_works, looked_at_lem}
use Rattle.day.proofs.At.{Fine, cores_wide}
use Rattle.day.proofs.Same.{look_passes}
use Rattle.day.proofs.Day.{Is}
use Rattle.day_words.specs.Words.{looked_to, has_in}
use Rattle.day_words.proofs.Model.{came, saw_to, came_stands, is_saw, has_is}

module _ (pl : Plan) (t : ℕ) (l : t ≤ clock_limit) (d : Day) (m : Desk) (s : Is pl t d m) where
  -- a look's choice is the model's
  look_choice : (p : ℕ) → p < pl.cores → choice_task (look_of d.box (suc p) t).choice ≡ choice_at pl t m p
  unfolding choice_at
  look_choice p h =
      let r = d.box in
      let passed = look_passes r (suc p) t s.good (omega arith) s.clock l (rw s.plan h) in
      rw (look_taken r (suc p) t refl passed refl, s.plan, ← s.desk) refl

  -- and so is a run's number
  oldest_is : (i : ℕ) → oldest_of d i ≡ number_of m i
  oldest_is i = rw (← s.desk) refl

module _ (pl : Plan) (xs : List ℕ) (f : Fine pl xs) where
  -- what core p has goes on, or is its choice from t on
  pub has_goes : (t p : ℕ) → t < clock_limit → p < pl.cores → let d = came pl xs t in
      has_in pl xs t p ≡ going_of (run_of d p) (choice_at pl t d p) (number_of d (choice_at pl t d p)) t
  has_goes t p l h =
      let s = came_stands pl xs f t l (arrivals_in xs) (omega arith) in
      has_is pl xs f t l p ∙ looked_at_lem pl t (came pl xs t) pl.cores p h (omega (arith, s.0.going, cores_wide pl xs f))

  -- its task and its run are the choice's
  pub has_task : (t p : ℕ) → t < clock_limit → p < pl.cores → (has_in pl xs t p).task ≡ choice_at pl t (came pl xs t) p
  has_task t p l h =
      let d = came pl xs t in
      let i = choice_at pl t d p in
      ap (λ (g : Going). g.task) (has_goes t p l h) ∙ goes_task (run_of d p) i (number_of d i) t

  pub has_run : (t p : ℕ) → t < clock_limit → p < pl.cores → (has_in pl xs t p).run ≡ number_of (came pl xs t) (choice_at pl t (came pl xs t) p)
  has_run t p l h =
      let d = came pl xs t in
      let i = choice_at pl t d p in
      ap (λ (g : Going). g.run) (has_goes t p l h) ∙ goes_run (run_of d p) i (number_of d i) t

  module _ (stop : ℕ) (upto : stop ≤ clock_limit) where
    -- in tick t core p has the choice of the look at it, and of that task the oldest unfinished run
    pub has_choice : (t p : ℕ) → t < stop → p < pl.cores → let d = looked_to pl xs t p in let i = choice_task (look_of d.box (suc p) t).choice in
        ((has_in pl xs t p).task ≡ i) × ((has_in pl xs t p).run ≡ oldest_of d i)
    has_choice t p l h =
        let u : t < clock_limit = omega (arith, l, upto) in
        let d = looked_to pl xs t p in
        let m = saw_to pl xs t p in
        let s = is_saw pl xs f t u p (omega (arith, h)) in
        let i = choice_task (look_of d.box (suc p) t).choice in
        let e : choice_at pl t (came pl xs t) p ≡ i =
        sym (look_choice pl t (omega (arith, u)) d m s p h ∙ choice_by_lem pl t m (came pl xs t) p (looked_states pl t (came pl xs t) p)) in (
          has_task t p u h ∙ e,
          has_run t p u h ∙ ap (number_of (came pl xs t)) e
              ∙ sym (oldest_is pl t (omega (arith, u)) d m s i ∙ number_by m (came pl xs t) i (looked_works pl t (came pl xs t) p)),
        )
