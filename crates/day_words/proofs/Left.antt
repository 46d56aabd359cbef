-- What is unfinished at the stop is listed with the ticks that it has had and its length.
use Prim.Native.Nat.{ℕ, zero, suc, ◌+◌, ◌-◌, ◌≤◌, ◌<◌}
use mathlib.Core.Path.{◌≡◌, refl, sym, ap, ◌∙◌}
use mathlib.Core.Bool.{cond}
use mathlib.Core.List.{List, [], ◌∷◌}
use native.Mathlib.Decide.{ℕ_discrete}
use native.Mathlib.Omega.{arith}
use lib.Dec.{eqb}
use lib.ListN.{get_or}
use borrow.Author.Tests.{ne_eqb}
use Rattle.units.specs.Limits.{clock_limit}
use Rattle.units.specs.Units.{ticks}
use Rattle.units.specs.declared.ticks.Ticks.{Ticks}
use Rattle.planning.specs.declared.Plan.{Plan}
use Rattle.task_state.specs.State.{run_at}
use Rattle.dispatch.specs.Record.{state_at}
use Rattle.arrivals.specs.Arrivals.{arrival_length}
use Rattle.run_lengths.specs.Work.{length_at, number_at}
use Rattle.day_lines.specs.declared.Event.{Event}
use Rattle.day_lines.specs.declared.Event.TheVariants.{Finished, Refused, Spanned, Stopped, Unfinished}
use Rattle.day_rules.specs.Day.{Day, work_at, had_at, ran, day_at, closes, left_of, unfinished, events_of}
use Rattle.day.specs.Desk.{line_of, desk_at, fresh_desk}
use Rattle.day.proofs.Kept.{Kept}
use Rattle.day.proofs.Stands.{Rested}
use Rattle.day.proofs.At.{Fine, stands_at}
use Rattle.day.proofs.Day.{is_at}
use Rattle.day_words.specs.Words.{Among, ticks_of, taken_before, length_of}
use Rattle.day_words.proofs.Model.{said_is}
use Rattle.day_words.proofs.Said.{Each, each_of, each_more, keeps_tick, keeps_closed}
use Rattle.day_words.proofs.Told.{Told}
use Rattle.day_words.proofs.Tasks.{told_at}

module _ (pl : Plan) (xs : List ℕ) (f : Fine pl xs) (stop : ℕ) (upto : stop ≤ clock_limit) where
  -- an unfinished run that is said
  abbrev LeftRight : Event → Type 0
  LeftRight (Finished x t late) = Unit {0}
  LeftRight (Refused n a i t) = Unit {0}
  LeftRight (Spanned x from to) = Unit {0}
  LeftRight (Stopped t) = Unit {0}
  LeftRight (Unfinished x due h c) =
      ((p : ℕ) → p < pl.cores → x.core ≡ suc p → h ≡ ticks_of pl xs p x.task x.run stop) × (c ≡ length_of pl xs stop x.task x.run) × (h < c)

  abbrev d : Day
  d = day_at pl xs stop

  -- the first n of task i
  left_right : (i : ℕ) → i < pl.count → (n : ℕ) → n ≤ (state_at d.box i).live → Each LeftRight (left_of d i n)
  left_right i here zero l = _
  left_right i here (suc k) l = each_more LeftRight (left_of d i k) (_ ∷ []) (left_right i here k (omega (arith, l))) ((had, long, less (ℕ_discrete k 0)), _)
    where
      told : Told pl xs stop i (taken_before pl xs (suc i) stop) (state_at d.box i) (work_at d i) (had_at d i)
      told = rw (← (is_at pl xs f stop upto).desk) at (told_at pl xs f stop upto i here)

      rested : Rested (state_at d.box i) (work_at d i) (had_at d i) stop
      rested = rw (← (is_at pl xs f stop upto).desk) at ((stands_at pl xs f stop upto).1 i here)

      kept : Kept (line_of pl i) (state_at d.box i) (work_at d i) stop
      kept = rw (← (is_at pl xs f stop upto).desk) at ((stands_at pl xs f stop upto).0.each i here)

      had : (p : ℕ) → p < pl.cores → (run_at (state_at d.box i) k).core ≡ suc p
          → cond (eqb k 0) (had_at d i) 0 ≡ ticks_of pl xs p (suc i) (number_at (work_at d i) k) stop
      had p h c = go (ℕ_discrete k 0)
        where
          go : Dec (k ≡ 0) → cond (eqb k 0) (had_at d i) 0 ≡ ticks_of pl xs p (suc i) (number_at (work_at d i) k) stop
          go (yes z) =
              let e : (work_at d i).ended + 1 + 0 ≡ (work_at d i).ended + 1 = omega arith in
              rw (z, e) (sym (told.oldest (omega (arith, l)) p h (rw z at c)))
          go (no z) = rw (ne_eqb k 0 z) (sym (told.ahead p (number_at (work_at d i) k) h (omega (arith, z))))

      long : length_at (work_at d i) k ≡ length_of pl xs stop (suc i) (number_at (work_at d i) k)
      long =
          let e : (work_at d i).ended + k ≡ (work_at d i).ended + 1 + k - 1 = omega arith in
          told.each k l ∙ ap (λ (j : ℕ). arrival_length xs (get_or (taken_before pl xs (suc i) stop) j 0)) e

      less : Dec (k ≡ 0) → cond (eqb k 0) (had_at d i) 0 < length_at (work_at d i) k
      less (yes z) = rw z (rested.within (omega (arith, l)))
      less (no z) = rw (ne_eqb k 0 z) (kept.some k l)

  -- of the first n tasks
  left_tasks : (n : ℕ) → n ≤ pl.count → Each LeftRight (unfinished d n)
  left_tasks zero l = _
  left_tasks (suc n) l =
      let k = (state_at d.box n).live in
      each_more LeftRight (unfinished d n) (left_of d n k) (left_tasks n (omega (arith, l))) (left_right n l k (omega arith))

  -- nothing is said to be unfinished before
  none_left : (t : ℕ) → Each LeftRight (desk_at pl xs t).said
  unfolding desk_at fresh_desk
  none_left zero = _
  none_left (suc t) =
      keeps_tick (Each LeftRight) pl xs t
      (λ k h e bad es q. each_more LeftRight es (_ ∷ []) q (_, _))
      (λ p h es q. each_more LeftRight es (_ ∷ []) q (_, _))
      (λ p h y late es q. each_more LeftRight es (_ ∷ []) q (_, _))
      (none_left t)

  all_left : Each LeftRight (events_of pl xs stop)
  unfolding events_of
  all_left =
      each_more LeftRight (closes stop pl.cores d).said (Stopped (ticks stop) ∷ unfinished d pl.count)
      (keeps_closed (Each LeftRight) stop d pl.cores (λ p h es q. each_more LeftRight es (_ ∷ []) q (_, _))
      (rw (said_is pl xs f stop upto) (none_left stop)))
      (_, left_tasks pl.count (omega arith))

  -- a run that is listed as unfinished has had so many ticks as its core's choice, and they are fewer than its length
  pub unfinished_had : (p i n : ℕ) (due : Ticks) (h c : ℕ) → Among (Unfinished (ran p i n) due h c) (events_of pl xs stop) → p < pl.cores
      → (h ≡ ticks_of pl xs p i n stop) × (c ≡ length_of pl xs stop i n) × (h < c)
  unfinished_had p i n due h c m l = let e = each_of LeftRight (events_of pl xs stop) all_left m in (e.0 p l refl, e.1, e.2)
