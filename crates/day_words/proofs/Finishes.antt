-- Each finish is the first instant at which its run has had its length of ticks as its core's choice.
use Prim.Native.Nat.{ℕ, zero, suc, ◌+◌, ◌-◌, ◌≤◌, ◌<◌}
use mathlib.Core.Path.{◌≡◌, refl, sym, ap, ◌∙◌}
use mathlib.Core.Bool.{true, ◌&&◌}
use mathlib.Core.List.{List, [], ◌∷◌}
use native.Mathlib.Decide.{ℕ_discrete}
use native.Mathlib.Omega.{arith}
use lib.Dec.{ltb, eqb}
use lib.IntN.{ℤ}
use lib.ListN.{length, get_or, length-append, get_or-append}
use borrow.Author.Tests.{eqb-true, eq-eqb, ltb-true}
use Rattle.lists.proofs.Tests.{and_left, and_right, and_true}
use Rattle.units.specs.Limits.{clock_limit}
use Rattle.units.specs.Units.{ticks}
use Rattle.planning.specs.declared.Plan.{Plan}
use Rattle.arrivals.specs.Arrivals.{arrivals_in, arrival_length}
use Rattle.run_lengths.specs.Work.{length_at}
use Rattle.goings.specs.Going.{same}
use Rattle.day_lines.specs.declared.Event.{Event}
use Rattle.day_lines.specs.declared.Event.TheVariants.{Finished, Refused, Spanned, Stopped, Unfinished}
use Rattle.day_rules.specs.Day.{ran, events_of}
use Rattle.day.specs.Desk.{Desk, state_of, work_of, had_of, run_of, done_of, desk_at, fresh_desk}
use Rattle.day.proofs.At.{Fine}
use Rattle.day_words.specs.Words.{Among, has_in, ticks_of, taken_in, taken_before, length_of, FirstHad}
use Rattle.day_words.proofs.Model.{end_to, ending_to, said_is}
use Rattle.day_words.proofs.Said.{Each, each_of, each_more, keeps_tick, keeps_stop}
use Rattle.day_words.proofs.Tasks.{TaskTold, told_end_to, runs_are, numbered}

module _ (pl : Plan) (xs : List ℕ) where
  -- later instants have no fewer accepted arrivals, and the same first ones
  pub taken_length : (i t s : ℕ) → t ≤ s → length (taken_before pl xs i t) ≤ length (taken_before pl xs i s)
  taken_length i t zero l = let e : t ≡ 0 = omega (arith, l) in rw e (omega arith)
  taken_length i t (suc s) l = go (λ h. taken_length i t s h) (ℕ_discrete t (suc s))
    where
      go : (t ≤ s → length (taken_before pl xs i t) ≤ length (taken_before pl xs i s)) → Dec (t ≡ suc s)
          → length (taken_before pl xs i t) ≤ length (taken_before pl xs i (suc s))
      go below (yes e) = rw e (omega arith)
      go below (no e) = omega (arith, length-append (taken_before pl xs i s) (taken_in pl xs i s (arrivals_in xs)), below (omega (arith, l, e)))

  pub taken_same : (i t s k : ℕ) → t ≤ s → k < length (taken_before pl xs i t) → get_or (taken_before pl xs i s) k 0 ≡ get_or (taken_before pl xs i t) k 0
  taken_same i t zero k l h = let e : t ≡ 0 = omega (arith, l) in rw e refl
  taken_same i t (suc s) k l h = go (λ b. taken_same i t s k b h) (ℕ_discrete t (suc s))
    where
      go : (t ≤ s → get_or (taken_before pl xs i s) k 0 ≡ get_or (taken_before pl xs i t) k 0) → Dec (t ≡ suc s)
          → get_or (taken_before pl xs i (suc s)) k 0 ≡ get_or (taken_before pl xs i t) k 0
      go below (yes e) = rw e refl
      go below (no e) =
          get_or-append (taken_before pl xs i s) (taken_in pl xs i s (arrivals_in xs)) 0 k (omega (arith, h, taken_length i t s (omega (arith, l, e))))
          ∙ below (omega (arith, l, e))

  -- later instants have no fewer ticks
  pub ticks_more : (p i n u t : ℕ) → u ≤ t → ticks_of pl xs p i n u ≤ ticks_of pl xs p i n t
  ticks_more p i n u zero l = let e : u ≡ 0 = omega (arith, l) in rw e (omega arith)
  ticks_more p i n u (suc t) l = go (λ h. ticks_more p i n u t h) (ℕ_discrete u (suc t))
    where
      go : (u ≤ t → ticks_of pl xs p i n u ≤ ticks_of pl xs p i n t) → Dec (u ≡ suc t) → ticks_of pl xs p i n u ≤ ticks_of pl xs p i n (suc t)
      go below (yes e) = rw e (omega arith)
      go below (no e) = omega (arith, below (omega (arith, l, e)))

  -- a finish that is said
  abbrev FinishRight : ℕ → Event → Type 0
  FinishRight s (Finished x t late) = (p : ℕ) → x.core ≡ suc p → FirstHad pl xs s p x.task x.run t.0
  FinishRight s (Refused n a i t) = Unit {0}
  FinishRight s (Spanned x from to) = Unit {0}
  FinishRight s (Stopped t) = Unit {0}
  FinishRight s (Unfinished x due had n) = Unit {0}

  module _ (f : Fine pl xs) (stop : ℕ) (upto : stop ≤ clock_limit) where
    -- core p's run of task i ends at t + 1
    module _ (t p : ℕ) (l : t < stop) (h : p < pl.cores) (i : ℕ) (here : i < pl.count)
        (on : (has_in pl xs t p).task ≡ suc i) (all : had_of (end_to pl xs t p) i ≡ length_at (work_of (end_to pl xs t p) i) 0) where
      abbrev d : Desk
      d = end_to pl xs t p

      abbrev n : ℕ
      n = (work_of d i).ended + 1

      in_time : t < clock_limit
      in_time = omega (arith, l, upto)

      told : TaskTold pl xs f (suc t) (taken_before pl xs (suc i) (suc t)) d i
      told = told_end_to pl xs f t in_time i here p (omega (arith, h))

      number : (has_in pl xs t p).run ≡ n
      number = numbered pl xs f t in_time i here p p (omega arith) h on

      had_first : 0 < (state_of d i).live → ticks_of pl xs p (suc i) n (suc t) ≡ had_of d i → FirstHad pl xs stop p (suc i) n (suc t)
      had_first live had =
          let ks = taken_before pl xs (suc i) (suc t) in
          let longer = taken_length (suc i) (suc t) stop l in
          let place : (work_of d i).ended + 1 - 1 ≡ (work_of d i).ended + 0 = omega arith in
          let its : length_at (work_of d i) 0 ≡ length_of pl xs stop (suc i) n =
          told.each 0 live ∙ sym (ap (λ (k : ℕ). arrival_length xs (get_or (taken_before pl xs (suc i) stop) k 0)) place
          ∙ ap (arrival_length xs) (taken_same (suc i) (suc t) stop ((work_of d i).ended + 0) l (omega (arith, told.all, live)))) in
          let more : ticks_of pl xs p (suc i) n (suc t) ≡ ticks_of pl xs p (suc i) n t + 1 = rw now refl in
          record {
            after = omega arith;
            within = l;
            from = omega arith;
            to = omega (arith, longer, told.all, live);
            had = had ∙ all ∙ its;
            first = λ u b. omega (arith, ticks_more p (suc i) n u t (omega (arith, b)), more, had ∙ all ∙ its);
          }
        where
          now : same (has_in pl xs t p) (suc i) n ≡ true
          now =
              and_true (eqb (has_in pl xs t p).task (suc i)) (eqb (has_in pl xs t p).run n) (eq-eqb (has_in pl xs t p).task (suc i) on)
              (eq-eqb (has_in pl xs t p).run n number)

      finish_first : FirstHad pl xs stop p (has_in pl xs t p).task (has_in pl xs t p).run (suc t)
      finish_first =
          let e = ending_to pl xs f t in_time p (omega (arith, h)) in
          let b = e.busy p i (omega arith) h (rw (runs_are pl xs f t in_time i here p p) on) in
          rw (on, number) (had_first b.live (told.oldest b.live p h b.there))

    -- core p's run is done
    done_first : (t p : ℕ) → t < stop → p < pl.cores → let e = end_to pl xs t p in done_of e (run_of e p).task ≡ true
        → FirstHad pl xs stop p (run_of e p).task (run_of e p).run (suc t)
    done_first t p l h y = go (run_of e p).task refl
      where
        e : Desk
        e = end_to pl xs t p

        g : ℕ
        g = (run_of (end_to pl xs t p) p).task

        some : 0 < g
        some = ltb-true 0 g (and_left (ltb 0 g) (eqb (had_of e (g - 1)) (length_at (work_of e (g - 1)) 0)) y)

        go : (c : ℕ) → (run_of (end_to pl xs t p) p).task ≡ c
            → FirstHad pl xs stop p (run_of (end_to pl xs t p) p).task (run_of (end_to pl xs t p) p).run (suc t)
        go zero z = absurd (omega (arith, some, z))
        go (suc i) on =
            let u : t < clock_limit = omega (arith, l, upto) in
            let here = ((ending_to pl xs f t u p (omega (arith, h))).busy p i (omega arith) h on).task in
            let r = runs_are pl xs f t u i here p p in
            let back : suc i - 1 ≡ i = omega arith in
            let both : (ltb 0 (suc i) && eqb (had_of (end_to pl xs t p) i) (length_at (work_of (end_to pl xs t p) i) 0)) ≡ true = rw (on, back) at y in
            let all = eqb-true (had_of (end_to pl xs t p) i) (length_at (work_of (end_to pl xs t p) i) 0) (and_right (ltb 0 (suc i)) _ both) in
            rw r (finish_first t p l h i here (rw r at on) all)

    -- so at each instant
    said_first : (t : ℕ) → t ≤ stop → Each (FinishRight stop) (desk_at pl xs t).said
    unfolding desk_at fresh_desk
    said_first zero l = _
    said_first (suc t) l =
        keeps_tick (Each (FinishRight stop)) pl xs t
        (λ k h e bad es q. each_more (FinishRight stop) es (_ ∷ []) q (_, _))
        (λ p h es q. each_more (FinishRight stop) es (_ ∷ []) q (_, _))
        (λ p h y late es q. each_more (FinishRight stop) es (_ ∷ []) q (it p h y, _))
        (said_first t (omega (arith, l)))
      where
        it : (p : ℕ) → p < pl.cores → let e = end_to pl xs t p in done_of e (run_of e p).task ≡ true
            → (q : ℕ) → suc p ≡ suc q → FirstHad pl xs stop q (run_of e p).task (run_of e p).run (suc t)
        it p h y q z = let e : q ≡ p = omega (arith, z) in rw e (done_first t p l h y)

    -- each finish that is said is the first instant at which its run has had its length
    pub finished_first : (p i n t : ℕ) (late : ℤ) → Among (Finished (ran p i n) (ticks t) late) (events_of pl xs stop) → FirstHad pl xs stop p i n t
    finished_first p i n t late m =
        each_of (FinishRight stop) (events_of pl xs stop)
        (keeps_stop (Each (FinishRight stop)) pl xs stop
        (λ p h es q. each_more (FinishRight stop) es (_ ∷ []) q (_, _))
        (λ es q. each_more (FinishRight stop) es (_ ∷ []) q (_, _))
        (λ x due had c es q. each_more (FinishRight stop) es (_ ∷ []) q (_, _))
        (rw (said_is pl xs f stop upto) (said_first stop (omega arith))))
        m p refl
