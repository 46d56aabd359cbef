-- Document 02, R-6: a day's rehearsal, by the calls that a box makes. Tick t is from t to t + 1, the first is 0.
-- Cores and arrivals are counted from 0 here, tasks and runs from 1, and all of them from 1 in calls and in what is said.
use Prim.Native.Nat.{ℕ, suc, ◌+◌, ◌-◌, ◌*◌, ◌≤◌, ◌<◌}
use mathlib.Core.Path.{◌≡◌, refl, sym, ap, subst, ◌∙◌}
use mathlib.Core.Logic.{◌↔◌, ◌⊎◌}
use mathlib.Core.Bool.{Bool, true, false, cond}
use mathlib.Core.List.{List, [], ◌∷◌, ◌++◌}
use native.Mathlib.Omega.{arith}
use lib.Dec.{ltb, leb, eqb}
use lib.IntN.{ℤ, pos, negsuc}
use lib.ListN.{length, get_or, take}
use borrow.Author.Tests.{ne_eqb}
use Rattle.lists.specs.Lists.{bit}
use Rattle.units.specs.Units.{ticks}
use Rattle.units.specs.Refusals.{refusal}
use Rattle.units.specs.declared.ticks.Ticks.{Ticks}
use Rattle.units.specs.Refusals.{Refusal}
use Rattle.writing.specs.Ascii.{ascii}
use Rattle.writing.specs.Decimal.{decimal_of}
use Rattle.writing.specs.Refused.{named_text, refusal_text}
use Rattle.admission.specs.Given.{Given, Taken}
use Rattle.planning.specs.declared.Plan.{Plan}
use Rattle.planning.specs.Plan.{plan_of}
use Rattle.planning.specs.Shape.{PlanShaped}
use Rattle.soundness.specs.Plan.{plan_sound}
use Rattle.task_state.specs.State.{run_at}
use Rattle.task_state.specs.Due.{due_after}
use Rattle.core_choice.specs.Told.{choice_task}
use Rattle.dispatch.specs.declared.call.Call.TheVariants.{Release, Finish, Look}
use Rattle.dispatch.specs.Record.{record_of}
use Rattle.dispatch.specs.Finish.{finish_of}
use Rattle.dispatch.specs.Look.{look_of}
use Rattle.dispatch.specs.Calls.{call_refusal, step}
use Rattle.dispatch.specs.Given.{◌if◌else◌, none, Out}
use Rattle.arrivals.specs.Arrivals.{arrivals_in, arrival_time, arrival_task, arrival_length, time_before, arrival_cost, arrival_tests, arrivals_refusal}
use Rattle.arrivals.specs.Fine.{Fine, First}
use Rattle.arrivals.proofs.Exactly.{refused_exactly}
use Rattle.arrivals.proofs.Passed.{fine, fine_taken}
use Rattle.day_lines.specs.declared.Event.{Event}
use Rattle.day_lines.specs.declared.Event.TheVariants.{Finished, Refused, Spanned, Stopped, Unfinished}
use Rattle.day_rules.specs.Day.{
  Day,
  start_day,
  going_at,
  oldest_of,
  ran,
  taken,
  arrive,
  arrivals,
  look_at,
  looks,
  runs_on,
  done,
  finished,
  finishes,
  day_at,
  closes,
  unfinished,
  events_of,
  day_text,
}
use Rattle.fronts.specs.declared.Front.{Front}
use Rattle.fronts.specs.Front.{no_front, front_of}
use Rattle.instants.specs.Seen.{seen_of, next_of, least_left}
use Rattle.run_lengths.specs.Work.{length_at}
use Rattle.day.specs.Desk.{Desk, line_of, state_of, work_of, had_of, choice_at, desk_of, arrived_by, leap, desk_at}
use Rattle.day.proofs.Stands.{Stands, Resting}
use Rattle.day.proofs.Jump as Jump
use Rattle.day.proofs.Skip as Skip
use Rattle.day.proofs.Day.{is_at}
use Rattle.day.proofs.Example as Example
use Rattle.day_text.specs.Input.{rehearses, unreadable, day_of}
use Rattle.day_text.proofs.Longer.{decided}
use Rattle.day_words.specs.Words.{
  Among,
  counted,
  arrived_to,
  looked_to,
  finished_to,
  has_in,
  ticks_of,
  covers,
  accepted,
  taken_before,
  length_of,
  FirstHad,
  says_refused,
  says_finished,
  says_unfinished,
  run_number,
}
use Rattle.day_words.proofs.Refusals as Refusals
use Rattle.day_words.proofs.Choices as Choices
use Rattle.day_words.proofs.Spans as Spans
use Rattle.day_words.proofs.Finishes as Finishes
use Rattle.day_words.proofs.Left as Left
use Rattle.day_words.proofs.Counts as Counts
use Rattle.day_words.proofs.Arrivals as Arrivals
use Rattle.rehearsal_answer.specs.Answer.{rehearsal_text}
use Rattle.rehearsal_answer.proofs.Pieces.{joined, pieces}
use Rattle.rehearsal_answer.proofs.Texts.{input_bad}
use Rattle.demands.proofs.Beneath.Arrivals.{rows}
use Rattle.demands.proofs.Beneath.Rehearsed as Beneath
use Rattle.demands.proofs.Beneath.Rehearse as Program

-- an input is decided by its first 200,730 bytes: what lies past them is answered the same
pub past_the_bound : (s : List ℕ) → day_of (take 200730 s) ≡ day_of s
past_the_bound = decided

-- any plan and arrivals
module _ (pl : Plan) (xs : List ℕ) where
  -- an arrival is tested: 25, beyond 4,096 or for a task not in the table; then 26, its length outside 1 to its cost; then 27, its time falls
  pub tests_exactly : (k r : ℕ) → (arrival_tests pl xs k ≡ r)
      ↔ (
      25 if (4096 ≤ k) ⊎ Out pl.count (arrival_task xs k)
      else 26 if Out (arrival_cost pl xs k) (arrival_length xs k)
      else 27 if arrival_time xs k < time_before xs k
      else none) r
  unfolding arrival_tests
  tests_exactly k =
      rows k pl.count (arrival_task xs k) (arrival_cost pl xs k) (arrival_length xs k) (time_before xs k) (arrival_time xs k)

  -- n arrivals are refused by the first, in list order, that its tests refuse, and by its number; the refusal names it, from 1
  pub first_exactly : (n r k : ℕ) → (r ≡ 0 → ⊥) → (arrivals_refusal pl xs n ≡ refusal r (k + 1)) ↔ First pl xs n r k
  first_exactly = refused_exactly pl xs

  -- none is refused exactly if they are at most 4,096, each for a task of the table, with a length of 1 to its cost, and their times do not fall
  pub none_exactly : (n : ℕ) → (arrivals_refusal pl xs n ≡ refusal 0 0) ↔ Fine pl xs n
  none_exactly n = (λ e. fine pl xs n (ap (λ (x : Refusal). x.no) e), fine_taken pl xs n)

  -- and it is always so: none is refused, or one is the first that is
  pub first_or_none : (n : ℕ) → (arrivals_refusal pl xs n ≡ refusal 0 0) ⊎ ((r : ℕ) × (k : ℕ) × (r ≡ 0 → ⊥) × First pl xs n r k)
  first_or_none = Program.first_or_none pl xs

  -- a rehearsal starts with the plan's fresh record
  pub starts_fresh : day_at pl xs 0 ≡ start_day (record_of pl)
  unfolding day_at
  starts_fresh = refl

  -- in tick t it takes the arrivals in list order, chooses for each core, runs each choice for one tick, then finishes those that are done, by rising core
  pub each_tick : (t : ℕ) → day_at pl xs (suc t)
      ≡ finishes (suc t) pl.cores (runs_on pl.cores (looks t pl.cores (arrivals xs t (arrivals_in xs) (day_at pl xs t))))
  unfolding day_at
  each_tick t = refl

  -- at the stop the finishes of that instant are done; it ends the spans, says the stop and lists what is unfinished
  pub at_the_stop : (stop : ℕ) → events_of pl xs stop
      ≡ (closes stop pl.cores (day_at pl xs stop)).said ++ (Stopped (ticks stop) ∷ unfinished (day_at pl xs stop) pl.count)
  unfolding events_of
  at_the_stop stop = refl

-- it makes the calls that a box makes: an arrival is a release at its time
module _ (xs : List ℕ) (t : ℕ) (d : Day) where
  pub arrival_releases : (k : ℕ) → (taken xs t k d).box ≡ step d.box (Release (arrival_task xs k) (ticks t))
  unfolding taken
  arrival_releases k = refl

  -- and is taken in the tick of its time alone, so that one from the stop on is not
  pub no_other_tick : (k : ℕ) → (arrival_time xs k ≡ t → ⊥) → arrive xs t k d ≡ d
  no_other_tick k n = rw (ne_eqb (arrival_time xs k) t n) refl

  -- a choice is a look
  pub choice_looks : (p : ℕ) → (look_at t p d).box ≡ step d.box (Look (suc p) (ticks t))
  unfolding look_at
  choice_looks p = refl

  -- and a run that is done is a finish of its task
  pub done_finishes : (p : ℕ) → (finished t p d).box ≡ step d.box (Finish (going_at d p).task (ticks t))
  unfolding finished
  done_finishes p = refl

  -- what is said of them: an arrival that is refused, with the number, and nothing of one that is taken
  pub arrival_says : (k : ℕ) → let n = call_refusal d.box (Release (arrival_task xs k) (ticks t)) in
      (taken xs t k d).said ≡ d.said ++ cond (eqb n 0) [] (Refused n (suc k) (arrival_task xs k) (ticks t) ∷ [])
  unfolding taken
  arrival_says k = rw (Beneath.release_called d.box (arrival_task xs k) t) refl

  -- and each finish, with the lateness that it answers
  pub done_says : (p : ℕ) → let g = going_at d p in
      (finished t p d).said ≡ d.said ++ (Finished (ran p g.task g.run) (ticks t) (finish_of d.box g.task t).late ∷ [])
  unfolding finished
  done_says p = refl

-- any sound plan, planned or not, arrivals of which none is refused, and any stop within the clock's limit
module _ (pl : Plan) (shaped : PlanShaped pl) (sound : plan_sound pl ≡ true) (xs : List ℕ) (passed : arrivals_refusal pl xs (arrivals_in xs) ≡ refusal 0 0)
    (stop : ℕ) (upto : stop ≤ 1000000000000) where
  -- what is said
  abbrev es : List Event
  es = events_of pl xs stop

  -- each look is taken
  pub looks_taken : (t p : ℕ) → t < stop → p < pl.cores → call_refusal (looked_to pl xs t p).box (Look (suc p) (ticks t)) ≡ 0
  looks_taken t p l h =
      Beneath.look_called (looked_to pl xs t p).box (suc p) t ∙ Refusals.looks_taken pl xs (Beneath.fine pl shaped sound xs passed) stop upto t p l h

  -- and each finish of a run that is done
  pub finishes_taken : (t p : ℕ) → t < stop → p < pl.cores → let d = finished_to pl xs t p in let i = (going_at d p).task in
      done d i ≡ true → call_refusal d.box (Finish i (ticks (suc t))) ≡ 0
  finishes_taken t p l h e =
      let d = finished_to pl xs t p in
      Beneath.finish_called d.box (going_at d p).task (suc t)
      ∙ Refusals.finishes_taken pl xs (Beneath.fine pl shaped sound xs passed) stop upto t p l h e

  -- and each arrival, or it is refused by 10 or 12
  pub arrivals_refused : (t k : ℕ) → t < stop → k < arrivals_in xs → arrival_time xs k ≡ t
      → let n = call_refusal (arrived_to pl xs t k).box (Release (arrival_task xs k) (ticks t)) in (n ≡ 0) ⊎ ((n ≡ 10) ⊎ (n ≡ 12))
  arrivals_refused t k l h e =
      subst (λ (n : ℕ). (n ≡ 0) ⊎ ((n ≡ 10) ⊎ (n ≡ 12))) (sym (Beneath.release_called (arrived_to pl xs t k).box (arrival_task xs k) t))
      (Refusals.arrivals_refused pl xs (Beneath.fine pl shaped sound xs passed) stop upto t k l h e)

  -- so no other refusal is printed
  pub refused_said : (n a i : ℕ) (u : Ticks) → Among (Refused n a i u) es → (n ≡ 10) ⊎ (n ≡ 12)
  refused_said = Refusals.refused_said pl xs (Beneath.fine pl shaped sound xs passed) stop upto

  -- in tick t core p has the choice of the look at it, and of that task the oldest unfinished run
  pub has_choice : (t p : ℕ) → t < stop → p < pl.cores → let d = looked_to pl xs t p in let i = choice_task (look_of d.box (suc p) t).choice in
      ((has_in pl xs t p).task ≡ i) × ((has_in pl xs t p).run ≡ oldest_of d i)
  has_choice = Choices.has_choice pl xs (Beneath.fine pl shaped sound xs passed) stop upto

  -- each finish is the first instant at which its run has had its length of ticks as its core's choice
  pub finished_first : (p i n t : ℕ) (late : ℤ) → Among (Finished (ran p i n) (ticks t) late) es → FirstHad pl xs stop p i n t
  finished_first = Finishes.finished_first pl xs (Beneath.fine pl shaped sound xs passed) stop upto

  -- who ran where: core p's choice in tick t is a run exactly if one span of p covers t
  pub spans_cover : (p : ℕ) → p < pl.cores → (t : ℕ) → t < stop → counted (covers p t) es ≡ bit (ltb 0 (has_in pl xs t p).task)
  spans_cover p h = Spans.spans_cover pl xs (Beneath.fine pl shaped sound xs passed) p h stop upto

  -- and that names it
  pub spans_name : (p : ℕ) → p < pl.cores → (i n : ℕ) (a b : Ticks) → Among (Spanned (ran p i n) a b) es → (t : ℕ) → a.0 ≤ t → t < b.0
      → (i ≡ (has_in pl xs t p).task) × (n ≡ (has_in pl xs t p).run)
  spans_name p h = Spans.spans_name pl xs (Beneath.fine pl shaped sound xs passed) p h stop upto

  -- what is listed as unfinished has had so many ticks as its core's choice, of its length, and they are fewer
  pub unfinished_had : (p i n : ℕ) (due : Ticks) (had len : ℕ) → Among (Unfinished (ran p i n) due had len) es → p < pl.cores
      → (had ≡ ticks_of pl xs p i n stop) × (len ≡ length_of pl xs stop i n) × (had < len)
  unfinished_had = Left.unfinished_had pl xs (Beneath.fine pl shaped sound xs passed) stop upto

  -- each of a task's accepted runs is finished or unfinished, once, and there are no others
  pub runs_once : (i n : ℕ) → 1 ≤ i → i ≤ pl.count → 1 ≤ n
      → counted (says_finished i n) es + counted (says_unfinished i n) es ≡ bit (leb n (length (taken_before pl xs i stop)))
  runs_once i n from to some =
      let e : suc (i - 1) ≡ i = omega (arith, from) in
      subst (λ (j : ℕ). counted (says_finished j n) es + counted (says_unfinished j n) es ≡ bit (leb n (length (taken_before pl xs j stop)))) e
      (Counts.runs_once pl xs (Beneath.fine pl shaped sound xs passed) (i - 1) (omega (arith, from, to)) n some stop upto)

  -- an arrival before the stop
  module _ (k : ℕ) (here : k < arrivals_in xs) (early : arrival_time xs k < stop) where
    abbrev i : ℕ
    i = arrival_task xs k

    -- the number of its run, counted over its task's arrivals that are not refused
    abbrev n : ℕ
    n = run_number xs es stop k

    -- is said to be refused, once, or it is accepted
    pub refused_once : counted (says_refused (suc k)) es + bit (accepted pl xs k) ≡ 1
    refused_once = Counts.refused_once pl xs (Beneath.fine pl shaped sound xs passed) k here stop upto early

    -- is in exactly one of: refused, finished, unfinished, and there once
    pub arrival_once : (counted (says_refused (suc k)) es ≡ 1)
        ⊎ ((counted (says_refused (suc k)) es ≡ 0) × (counted (says_finished i n) es + counted (says_unfinished i n) es ≡ 1))
    arrival_once =
        Arrivals.arrival_once pl xs (Beneath.fine pl shaped sound xs passed) stop upto (Beneath.rising pl shaped sound xs passed) k here early

    -- its run is that of this number
    pub its_run : counted (says_refused (suc k)) es ≡ 0 → (n ≤ length (taken_before pl xs i stop)) × (get_or (taken_before pl xs i stop) (n - 1) 0 ≡ k)
    its_run = Arrivals.its_run pl xs (Beneath.fine pl shaped sound xs passed) stop upto (Beneath.rising pl shaped sound xs passed) k here early

  -- the one law between the calls and the model: at each instant a day by calls is the model's desk
  pub by_calls : desk_of (day_at pl xs stop) ≡ desk_at pl xs stop
  by_calls = (is_at pl xs (Beneath.fine pl shaped sound xs passed) stop upto).desk

-- the model's law: m ticks in which nothing arrives, no choice changes and none needs less are the same at once, whatever the plan
pub skips : (pl : Plan) (xs : List ℕ) (t m : ℕ) → Skip.Quiet pl xs t m → 0 < m
    → desk_at pl xs (t + m) ≡ leap pl t m (arrived_by pl xs t (arrivals_in xs) (desk_at pl xs t))
skips = Skip.skip

-- so a day by calls is the same by skipping
pub day_skips : (pl : Plan) → PlanShaped pl → plan_sound pl ≡ true → (xs : List ℕ) → arrivals_refusal pl xs (arrivals_in xs) ≡ refusal 0 0
    → (t m : ℕ) → t + m ≤ 1000000000000 → Skip.Quiet pl xs t m → 0 < m
    → desk_of (day_at pl xs (t + m)) ≡ leap pl t m (arrived_by pl xs t (arrivals_in xs) (desk_of (day_at pl xs t)))
day_skips pl shaped sound xs passed t m upto quiet some =
    rw (by_calls pl shaped sound xs passed (t + m) upto, by_calls pl shaped sound xs passed t (omega (arith, upto))) (skips pl xs t m quiet some)

-- how far the code goes from t at once, with the arrivals of t taken, fs what an instant asks of each task, v the next arrival's time or the stop
module _ (pl : Plan) (shaped : PlanShaped pl) (sound : plan_sound pl ≡ true) (xs : List ℕ) (passed : arrivals_refusal pl xs (arrivals_in xs) ≡ refusal 0 0)
    (t v : ℕ) (ahead : t < v) (upto : v ≤ 1000000000000) (coming : (j : ℕ) → j < arrivals_in xs → t < arrival_time xs j → v ≤ arrival_time xs j)
    (fs : List Front) where
  abbrev at : Desk
  at = arrived_by pl xs t (arrivals_in xs) (desk_at pl xs t)

  abbrev far : ℕ
  far = least_left (seen_of fs at.had t pl.count) (next_of fs t v pl.count - t) pl.cores

  stands : Stands pl t at × Resting pl t at
  stands = Beneath.taken_stands pl shaped sound xs passed t (omega (arith, ahead, upto))

  module _ (front : (i : ℕ) → i < pl.count → get_or fs i no_front ≡ front_of (line_of pl i) (state_of at i) (work_of at i)) where
    -- some ticks, and no further than the next arrival or the stop
    pub jump_some : 0 < far
    jump_some = Jump.jump_some pl xs (Beneath.fine pl shaped sound xs passed) t v ahead upto coming fs stands.0 stands.1 front

    pub jump_coming : t + far ≤ v
    jump_coming = Jump.jump_most pl xs (Beneath.fine pl shaped sound xs passed) t v ahead upto coming fs stands.0 stands.1 front

    -- nor than the release time of any stored run that lies ahead
    pub jump_releases : (i k : ℕ) → i < pl.count → k < (state_of at i).live
        → let x = (run_at (state_of at i) k).deadline.0 - due_after (line_of pl i) in t < x → t + far ≤ x
    jump_releases = Jump.jump_releases pl xs (Beneath.fine pl shaped sound xs passed) t v ahead upto coming fs stands.0 stands.1 front

    -- nor than the finish of a core's choice
    pub jump_finishes : (p : ℕ) → p < pl.cores → 0 < choice_at pl t at p
        → had_of at (choice_at pl t at p - 1) + far ≤ length_at (work_of at (choice_at pl t at p - 1)) 0
    jump_finishes = Jump.jump_finishes pl xs (Beneath.fine pl shaped sound xs passed) t v ahead upto coming fs stands.0 stands.1 front

-- three tasks of 2 3 on 2 cores, each comes once, at 0: finishes at 2 and at 4
pub three_jobs : events_of (plan_of 2 (2 ∷ 3 ∷ 2 ∷ 3 ∷ 2 ∷ 3 ∷ [])).plan (0 ∷ 1 ∷ 2 ∷ 0 ∷ 2 ∷ 2 ∷ 0 ∷ 3 ∷ 2 ∷ []) 4
    ≡ Finished (ran 0 3 1) (ticks 2) (negsuc 0)
    ∷ Finished (ran 1 2 1) (ticks 2) (negsuc 0)
    ∷ Spanned (ran 0 3 1) (ticks 0) (ticks 2)
    ∷ Spanned (ran 1 2 1) (ticks 0) (ticks 2)
    ∷ Finished (ran 0 1 1) (ticks 4) (pos 1)
    ∷ Spanned (ran 0 1 1) (ticks 2) (ticks 4)
    ∷ Stopped (ticks 4)
    ∷ []
three_jobs = Example.three_jobs

-- its text
pub three_text : day_text (plan_of 2 (2 ∷ 3 ∷ 2 ∷ 3 ∷ 2 ∷ 3 ∷ [])).plan (0 ∷ 1 ∷ 2 ∷ 0 ∷ 2 ∷ 2 ∷ 0 ∷ 3 ∷ 2 ∷ []) 4
    ≡ ascii "finish core 1 task 3 run 1 at 2 late -1\nfinish core 2 task 2 run 1 at 2 late -1\n"
    ++ ascii "span core 1 task 3 run 1 from 0 to 2\nspan core 2 task 2 run 1 from 0 to 2\n"
    ++ ascii "finish core 1 task 1 run 1 at 4 late 1\nspan core 1 task 1 run 1 from 2 to 4\nstop 4\n"
three_text = Example.three_text

-- one task of 1 2 on one core, nine arrivals at 0
abbrev nine : List ℕ
nine =
    0 ∷ 1 ∷ 1 ∷ 0 ∷ 1 ∷ 1 ∷ 0 ∷ 1 ∷ 1 ∷ 0 ∷ 1 ∷ 1 ∷ 0 ∷ 1 ∷ 1 ∷ 0 ∷ 1 ∷ 1 ∷ 0 ∷ 1 ∷ 1 ∷ 0 ∷ 1 ∷ 1 ∷ 0 ∷ 1 ∷ 1 ∷ []

-- the ninth is refused by 10, two finish, at 1 and 3, and six are unfinished
pub nine_at_once : events_of (plan_of 1 (1 ∷ 2 ∷ [])).plan nine 3
    ≡ Refused 10 9 1 (ticks 0)
    ∷ Finished (ran 0 1 1) (ticks 1) (negsuc 0)
    ∷ Spanned (ran 0 1 1) (ticks 0) (ticks 1)
    ∷ Finished (ran 0 1 2) (ticks 3) (negsuc 0)
    ∷ Spanned (ran 0 1 2) (ticks 2) (ticks 3)
    ∷ Stopped (ticks 3)
    ∷ Unfinished (ran 0 1 3) (ticks 6) 0 1
    ∷ Unfinished (ran 0 1 4) (ticks 8) 0 1
    ∷ Unfinished (ran 0 1 5) (ticks 10) 0 1
    ∷ Unfinished (ran 0 1 6) (ticks 12) 0 1
    ∷ Unfinished (ran 0 1 7) (ticks 14) 0 1
    ∷ Unfinished (ran 0 1 8) (ticks 16) 0 1
    ∷ []
nine_at_once = Example.nine_at_once

-- its text
pub nine_text : day_text (plan_of 1 (1 ∷ 2 ∷ [])).plan nine 3
    ≡ ascii "refused 10 arrival 9 task 1 at 0\nfinish core 1 task 1 run 1 at 1 late -1\nspan core 1 task 1 run 1 from 0 to 1\n"
    ++ ascii "finish core 1 task 1 run 2 at 3 late -1\nspan core 1 task 1 run 2 from 2 to 3\nstop 3\n"
    ++ ascii "unfinished task 1 run 3 core 1 deadline 6 had 0 of 1\nunfinished task 1 run 4 core 1 deadline 8 had 0 of 1\n"
    ++ ascii "unfinished task 1 run 5 core 1 deadline 10 had 0 of 1\nunfinished task 1 run 6 core 1 deadline 12 had 0 of 1\n"
    ++ ascii "unfinished task 1 run 7 core 1 deadline 14 had 0 of 1\nunfinished task 1 run 8 core 1 deadline 16 had 0 of 1\n"
nine_text = Example.nine_text

-- what the program `rehearse` writes for an input: 16 first, naming a line, if it can't be read there
pub program_16 : (s : List ℕ) (line : ℕ) → day_of s ≡ unreadable line → rehearsal_text s ≡ refusal_text (refusal 16 line)
program_16 s line e = sym (input_bad s e)

-- one that says a table, a stop and arrivals, and whether a line is left after them: unreadable, or beyond 4,096
module _ (s : List ℕ) {m stop : ℕ} {xs ys : List ℕ} {more : Bool} (e : day_of s ≡ rehearses m xs stop ys more) where
  -- then planning's: each of 1 to 6, naming a task, if it is given for the table
  pub program_planning : (n i : ℕ) → 0 < n → Given m xs n i → rehearsal_text s ≡ refusal_text (refusal n i)
  program_planning = Program.then_planning s e

  module _ (t : Taken m xs) where
    -- then 12, if the stop is above 1,000,000,000,000
    pub program_12 : 1000000000000 < stop → rehearsal_text s ≡ refusal_text (refusal 12 0)
    program_12 = Program.then_12 s e t

    module _ (upto : stop ≤ 1000000000000) where
      -- then the first arrival, in list order, that its tests refuse: by 25, 26 or 27, naming it, from 1
      pub program_arrivals : (r k : ℕ) → (r ≡ 0 → ⊥) → First (plan_of m xs).plan ys (arrivals_in ys) r k
          → rehearsal_text s ≡ refusal_text (refusal r (k + 1))
      program_arrivals = Program.then_arrivals s e t upto

      module _ (passed : arrivals_refusal (plan_of m xs).plan ys (arrivals_in ys) ≡ refusal 0 0) where
        -- then 25, if a line is left, naming it as the arrival after the last
        pub program_25 : more ≡ true → rehearsal_text s ≡ refusal_text (refusal 25 (arrivals_in ys + 1))
        program_25 = Program.then_25 s e t upto passed

        -- else the day's lines
        pub program_day : more ≡ false → rehearsal_text s ≡ day_text (plan_of m xs).plan ys stop
        program_day = Program.else_day s e t upto passed

-- a refused arrival's line
pub program_refused_arrival : refusal_text (refusal 25 3) ≡ ascii "refused 25 arrival 3\n"
unfolding refusal_text named_text decimal_of
program_refused_arrival = refl

-- the program writes a text through a buffer of n bytes, piece by piece: put together they are the text, and none is lost
pub nothing_lost : (n f : ℕ) (t : List ℕ) → length t ≤ n * f → joined n f 0 t ≡ t
nothing_lost = pieces
