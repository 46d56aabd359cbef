-- What is said, step by step: a property of the list that each step keeps.
use Prim.Native.Nat.{ℕ, zero, suc, ◌+◌, ◌≤◌, ◌<◌}
use mathlib.Core.Path.{◌≡◌, refl, sym, ◌∙◌, subst}
use mathlib.Core.Logic.{◌⊎◌, inl, inr}
use mathlib.Core.Bool.{Bool, true, ◌||◌}
use mathlib.Core.List.Memᴰ
use mathlib.Core.List.{List, [], ◌∷◌, ◌++◌, append-nil, append_assoc}
use native.Mathlib.Omega.{arith}
use lib.Dec.{eqb}
use lib.IntN.{ℤ}
use lib.Seq.{get_or-set_other}
use borrow.Author.Tests.{eqb-true, eqb-false}
use Rattle.lists.specs.Lists.{bit}
use Rattle.lists.proofs.Tests.{by_cases}
use Rattle.units.specs.Units.{ticks}
use Rattle.units.specs.declared.ticks.Ticks.{Ticks}
use Rattle.planning.specs.declared.Plan.{Plan}
use Rattle.dispatch.specs.Record.{state_at}
use Rattle.arrivals.specs.Arrivals.{arrivals_in, arrival_time, arrival_task}
use Rattle.goings.specs.declared.Going.{Going}
use Rattle.goings.specs.Going.{no_going, same}
use Rattle.day_lines.specs.declared.Ran.{Ran}
use Rattle.day_lines.specs.declared.Event.{Event}
use Rattle.day_lines.specs.declared.Event.TheVariants.{Finished, Refused, Spanned, Stopped, Unfinished}
use Rattle.day_rules.specs.Day.{Day, going_at, ran, span_end, day_at, closes, left_of, unfinished, events_of}
use Rattle.day.specs.Desk.{Desk, run_of, arrival_no, takes, arrived_by, choice_at, number_of, looks_at, looked_at, ran_on, done_of, ends_on, ended_by, desk_at}
use Rattle.day.proofs.Looked.{looked_past}
use Rattle.day_words.specs.Words.{Among, counted}
use Rattle.day_words.proofs.Model.{came_to, came, ran_in, end_to, desk_next}

-- each thing that is said has a property
abbrev pub Each : (Event → Type 0) → List Event → Type 0
Each P [] = Unit {0}
Each P (e ∷ es) = P e × Each P es

pub each_of : (P : Event → Type 0) {e : Event} (es : List Event) → Each P es → Among e es → P e
each_of P [] h m = absurd (Memᴰ.not-nil m)
each_of P {e} (x ∷ es) h m = go (λ a. each_of P es h.1 a) (Memᴰ.cases_cons m)
  where
    go : (Among e es → P e) → (e ≡ x) ⊎ Among e es → P e
    go below (inl q) = subst P (sym q) h.0
    go below (inr a) = below a

pub each_more : (P : Event → Type 0) (es fs : List Event) → Each P es → Each P fs → Each P (es ++ fs)
each_more P [] fs a b = b
each_more P (e ∷ es) fs a b = (a.0, each_more P es fs a.1 b)

pub counted_more : (f : Event → Bool) (es fs : List Event) → counted f (es ++ fs) ≡ counted f es + counted f fs
counted_more f [] fs = omega arith
counted_more f (e ∷ es) fs = omega (arith, counted_more f es fs)

-- one thing more
pub counted_one : (f : Event → Bool) (es : List Event) (e : Event) → counted f (es ++ (e ∷ [])) ≡ counted f es + bit (f e)
counted_one f es e = counted_more f es (e ∷ []) ∙ omega arith

-- finishes leave the cores' runs
pub ended_going : (t n : ℕ) (d : Desk) → (ended_by t n d).going ≡ d.going
unfolding ends_on
ended_going t zero d = refl
ended_going t (suc n) d =
    by_cases (done_of (ended_by t n d) (run_of (ended_by t n d) n).task) (λ e. rw e (ended_going t n d)) (λ e. rw e (ended_going t n d))

-- a core whose span has not ended has its run
pub closed_past : (t : ℕ) (d : Day) (n p : ℕ) → n ≤ p → going_at (closes t n d) p ≡ going_at d p
closed_past t d zero p l = refl
closed_past t d (suc n) p l =
    get_or-set_other (closes t n d).going n p _ no_going (λ e. omega (arith, e)) ∙ closed_past t d n p (omega (arith, l))

-- unfinished runs are said alone after the stop
module _ (P : Event → Type 0) (u : (x : Ran) (due : Ticks) (had n : ℕ) → P (Unfinished x due had n)) (d : Day) where
  left_of_lem : (i n : ℕ) → Each P (left_of d i n)
  left_of_lem i zero = _
  left_of_lem i (suc n) = each_more P (left_of d i n) (_ ∷ []) (left_of_lem i n) (u _ _ _ _, _)

  pub left_each : (n : ℕ) → Each P (unfinished d n)
  left_each zero = _
  left_each (suc n) = each_more P (unfinished d n) (left_of d n (state_at d.box n).live) (left_each n) (left_of_lem n (state_at d.box n).live)

module _ (Q : List Event → Type 0) where
  -- it is kept by one thing more
  abbrev pub KeptBy : Event → Type 0
  KeptBy e = (es : List Event) → Q es → Q (es ++ (e ∷ []))

  -- so by many
  pub keeps_each : (es fs : List Event) → Each KeptBy fs → Q es → Q (es ++ fs)
  keeps_each es [] h q = rw (append-nil es) q
  keeps_each es (e ∷ fs) h q = subst Q (append_assoc es (e ∷ []) fs) (keeps_each (es ++ (e ∷ [])) fs h.1 (h.0 es q))

  -- by a span that ends
  pub keeps_span : (p : ℕ) (g : Going) (i n t : ℕ) (es : List Event) → KeptBy (Spanned (ran p g.task g.run) g.from (ticks t)) → Q es
      → Q (es ++ span_end p g i n t)
  keeps_span p g i n t es h q = by_cases (same g i n || eqb g.task 0) (λ e. rw (e, append-nil es) q) (λ e. rw e (h es q))

  module _ (pl : Plan) (xs : List ℕ) (t : ℕ) (d : Desk) where
    -- by arrivals
    pub keeps_arrived : (n : ℕ)
        → ((k : ℕ) → k < n → arrival_time xs k ≡ t → (arrival_no pl xs t k (arrived_by pl xs t k d) ≡ 0 → ⊥)
        → KeptBy (Refused (arrival_no pl xs t k (arrived_by pl xs t k d)) (suc k) (arrival_task xs k) (ticks t)))
        → Q d.said → Q (arrived_by pl xs t n d).said
    unfolding takes
    keeps_arrived zero h q = q
    keeps_arrived (suc n) h q =
        let e = arrived_by pl xs t n d in
        let r = keeps_arrived n (λ k l. h k (omega (arith, l))) q in
        by_cases (eqb (arrival_time xs n) t)
        (λ a. rw a (by_cases (eqb (arrival_no pl xs t n e) 0)
        (λ b. rw (b, append-nil e.said) r)
        (λ b. rw b (h n (omega arith) (eqb-true (arrival_time xs n) t a) (eqb-false (arrival_no pl xs t n e) 0 b) e.said r))))
        (λ a. rw a r)

    -- by looks
    pub keeps_looked : (n : ℕ)
        → ((p : ℕ) → p < n → KeptBy (Spanned (ran p (run_of d p).task (run_of d p).run) (run_of d p).from (ticks t)))
        → Q d.said → Q (looked_at pl t n d).said
    unfolding looks_at
    keeps_looked zero h q = q
    keeps_looked (suc n) h q =
        let e = looked_at pl t n d in
        let r = keeps_looked n (λ p l. h p (omega (arith, l))) q in
        let i = choice_at pl t e n in
        keeps_span n (run_of e n) i (number_of e i) t e.said (rw (looked_past pl t d n n (omega arith)) (h n (omega arith))) r

  -- by finishes
  pub keeps_ended : (t : ℕ) (d : Desk) (n : ℕ)
      → ((p : ℕ) → p < n → done_of (ended_by t p d) (run_of (ended_by t p d) p).task ≡ true → (late : ℤ)
      → KeptBy (Finished (ran p (run_of (ended_by t p d) p).task (run_of (ended_by t p d) p).run) (ticks t) late))
      → Q d.said → Q (ended_by t n d).said
  unfolding ends_on
  keeps_ended t d zero h q = q
  keeps_ended t d (suc n) h q =
      let e = ended_by t n d in
      let r = keeps_ended t d n (λ p l. h p (omega (arith, l))) q in
      by_cases (done_of e (run_of e n).task) (λ a. rw a (h n (omega arith) a _ e.said r)) (λ a. rw a r)

  module _ (pl : Plan) (xs : List ℕ) where
    -- by a tick
    pub keeps_tick : (t : ℕ)
        → ((k : ℕ) → k < arrivals_in xs → arrival_time xs k ≡ t → (arrival_no pl xs t k (came_to pl xs t k) ≡ 0 → ⊥)
        → KeptBy (Refused (arrival_no pl xs t k (came_to pl xs t k)) (suc k) (arrival_task xs k) (ticks t)))
        → ((p : ℕ) → p < pl.cores → let g = run_of (came pl xs t) p in KeptBy (Spanned (ran p g.task g.run) g.from (ticks t)))
        → ((p : ℕ) → p < pl.cores → let e = end_to pl xs t p in done_of e (run_of e p).task ≡ true → (late : ℤ)
        → KeptBy (Finished (ran p (run_of e p).task (run_of e p).run) (ticks (suc t)) late))
        → Q (desk_at pl xs t).said → Q (desk_at pl xs (suc t)).said
    unfolding ran_on
    keeps_tick t a b c q =
        rw (desk_next pl xs t)
        (keeps_ended (suc t) (ran_in pl xs t) pl.cores c
        (keeps_looked pl xs t (came pl xs t) pl.cores b (keeps_arrived pl xs t (desk_at pl xs t) (arrivals_in xs) a q)))

  -- by the spans that end at the stop
  pub keeps_closed : (t : ℕ) (d : Day) (n : ℕ)
      → ((p : ℕ) → p < n → let g = going_at d p in KeptBy (Spanned (ran p g.task g.run) g.from (ticks t)))
      → Q d.said → Q (closes t n d).said
  keeps_closed t d zero h q = q
  keeps_closed t d (suc n) h q =
      let e = closes t n d in
      keeps_span n (going_at e n) 0 0 t e.said (rw (closed_past t d n n (omega arith)) (h n (omega arith)))
      (keeps_closed t d n (λ p l. h p (omega (arith, l))) q)

  -- by all that is said at the stop
  pub keeps_stop : (pl : Plan) (xs : List ℕ) (s : ℕ)
      → ((p : ℕ) → p < pl.cores → let g = going_at (day_at pl xs s) p in KeptBy (Spanned (ran p g.task g.run) g.from (ticks s)))
      → KeptBy (Stopped (ticks s)) → ((x : Ran) (due : Ticks) (had n : ℕ) → KeptBy (Unfinished x due had n))
      → Q (day_at pl xs s).said → Q (events_of pl xs s)
  unfolding events_of
  keeps_stop pl xs s a b c q =
      let d = day_at pl xs s in
      keeps_each (closes s pl.cores d).said (Stopped (ticks s) ∷ unfinished d pl.count) (b, left_each KeptBy c d pl.count)
      (keeps_closed s d pl.cores a q)
