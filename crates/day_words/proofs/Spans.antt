-- Core c's choice in tick t < S is a run exactly if one printed span of c covers t, and that names it.
use Prim.Native.Nat.{ℕ, zero, suc, ◌≤◌, ◌<◌}
use mathlib.Core.Path.{◌≡◌, refl, sym, subst}
use mathlib.Core.List.{List, ◌∷◌, ◌++◌}
use native.Mathlib.Decide.{ℕ_discrete}
use native.Mathlib.Omega.{arith}
use lib.Dec.{ltb, eqb}
use lib.ListN.{get_or-replicate}
use borrow.Author.Tests.{ne_eqb}
use Rattle.lists.specs.Lists.{bit}
use Rattle.lists.proofs.Tests.{by_cases}
use Rattle.units.specs.Limits.{cores_limit, clock_limit}
use Rattle.units.specs.Units.{ticks}
use Rattle.units.specs.declared.ticks.Ticks.{Ticks}
use Rattle.planning.specs.declared.Plan.{Plan}
use Rattle.arrivals.specs.Arrivals.{arrivals_in, arrival_time}
use Rattle.goings.specs.declared.Going.{Going}
use Rattle.goings.specs.Going.{no_going}
use Rattle.day_lines.specs.declared.Event.TheVariants.{Spanned, Stopped}
use Rattle.day_rules.specs.Day.{Day, going_at, ran, span_end, day_at, closes, unfinished, events_of}
use Rattle.day.specs.Desk.{Desk, run_of, takes, arrived_by, choice_at, number_of, looks_at, looked_at, ran_on, fresh_desk, desk_at}
use Rattle.day.proofs.Looked.{choice_by_lem, number_by, looked_states, looked_works, looked_past}
use Rattle.day.proofs.At.{Fine, cores_wide}
use Rattle.day.proofs.Day.{is_at}
use Rattle.day_words.specs.Words.{Among, counted, covers, has_in}
use Rattle.day_words.proofs.Model.{came, saw_to, ran_in, desk_next, has_is}
use Rattle.day_words.proofs.Said.{each_of, closed_past, ended_going, left_each, KeptBy, keeps_each, keeps_span, keeps_arrived, keeps_ended}
use Rattle.day_words.proofs.Choices.{has_goes}
use Rattle.day_words.proofs.Span.{Names, SpanAt, Closed, other_span, other_core, other_closed, close_span, look_span}

-- arrivals leave the cores' runs
pub arrived_going : (pl : Plan) (xs : List ℕ) (t n : ℕ) (d : Desk) → (arrived_by pl xs t n d).going ≡ d.going
unfolding takes
arrived_going pl xs t zero d = refl
arrived_going pl xs t (suc n) d = by_cases (eqb (arrival_time xs n) t) (λ e. rw e (arrived_going pl xs t n d)) (λ e. rw e (arrived_going pl xs t n d))

module _ (pl : Plan) (xs : List ℕ) (f : Fine pl xs) (p : ℕ) (here : p < pl.cores) where
  -- the run that core p has in each tick
  abbrev has : ℕ → Going
  has u = has_in pl xs u p

  -- it is the one that goes on at the next instant
  pub going_next : (t : ℕ) → t < clock_limit → run_of (desk_at pl xs (suc t)) p ≡ has t
  unfolding ran_on
  going_next t l = rw (desk_next pl xs t, ended_going (suc t) pl.cores (ran_in pl xs t)) (sym (has_is pl xs f t l p))

  module _ (t : ℕ) (l : t < clock_limit) where
    abbrev d : Desk
    d = came pl xs t

    -- core p is looked at
    look_own : SpanAt has p t (looked_at pl t p d).said (run_of d p) → SpanAt has p (suc t) (looked_at pl t (suc p) d).said (has t)
    unfolding looks_at
    look_own s =
        let e = looked_at pl t p d in
        let i = choice_at pl t d p in
        let n = number_of d i in
        let q : span_end p (run_of e p) (choice_at pl t e p) (number_of e (choice_at pl t e p)) t ≡ span_end p (run_of d p) i n t =
        rw (looked_past pl t d p p (omega arith), choice_by_lem pl t e d p (looked_states pl t d p), number_by e d i (looked_works pl t d p)) refl in
        let g = has_goes pl xs f t p l here in
        rw q (subst (λ (x : Going). SpanAt has p (suc t) (e.said ++ span_end p (run_of d p) i n t) x) (sym g)
        (look_span has p t e.said (run_of d p) s i n g))

    -- the cores below n are
    looked_span : (n : ℕ) → SpanAt has p t d.said (run_of d p)
        → (p < n → SpanAt has p (suc t) (looked_at pl t n d).said (has t)) × (n ≤ p → SpanAt has p t (looked_at pl t n d).said (run_of d p))
    unfolding looks_at
    looked_span zero s = (λ h. absurd (omega (arith, h)), λ h. s)
    looked_span (suc n) s =
        let b = looked_span n s in
        (λ h. go h b.0 b.1 (ℕ_discrete p n), λ h. other t (run_of d p) (λ z. omega (arith, z, h)) (b.1 (omega (arith, h))))
      where
        e : Desk
        e = looked_at pl t n d

        other : (u : ℕ) (g : Going) → (n ≡ p → ⊥) → SpanAt has p u e.said g
            → SpanAt has p u (e.said ++ span_end n (run_of e n) (choice_at pl t e n) (number_of e (choice_at pl t e n)) t) g
        other u g h b = other_core has p u e.said g b n h (run_of e n) (choice_at pl t e n) (number_of e (choice_at pl t e n)) t

        go : p < suc n → (p < n → SpanAt has p (suc t) e.said (has t)) → (n ≤ p → SpanAt has p t e.said (run_of d p)) → Dec (p ≡ n)
            → SpanAt has p (suc t) (looked_at pl t (suc n) d).said (has t)
        go h below at (yes q) =
            subst (λ (m : ℕ). SpanAt has p (suc t) (looked_at pl t (suc m) d).said (has t)) q
            (look_own (subst (λ (m : ℕ). SpanAt has p t (looked_at pl t m d).said (run_of d p)) (sym q) (at (omega (arith, q)))))
        go h below at (no q) = other (suc t) (has t) (λ z. q (sym z)) (below (omega (arith, h, q)))

  -- at the start
  span_start : SpanAt has p 0 (desk_at pl xs 0).said (run_of (desk_at pl xs 0) p)
  unfolding desk_at fresh_desk
  span_start =
      rw (get_or-replicate cores_limit p no_going no_going (omega (arith, here, cores_wide pl xs f))) (record {
        from = omega arith;
        past = λ u l. absurd (omega (arith, l));
        ahead = λ u l. refl;
        named = _;
        going = λ u a l. absurd (omega (arith, l));
      })

  -- running says nothing
  ran_said : (t : ℕ) → SpanAt has p (suc t) (saw_to pl xs t pl.cores).said (has t) → SpanAt has p (suc t) (ran_in pl xs t).said (has t)
  unfolding ran_on
  ran_said t s = s

  -- at each instant
  pub span_at : (t : ℕ) → t ≤ clock_limit → SpanAt has p t (desk_at pl xs t).said (run_of (desk_at pl xs t) p)
  span_at zero l = span_start
  span_at (suc t) l =
      let u : t < clock_limit = l in
      let a = span_at t (omega (arith, l)) in
      let b : SpanAt has p t (came pl xs t).said (run_of (desk_at pl xs t) p) =
      keeps_arrived (λ es. SpanAt has p t es (run_of (desk_at pl xs t) p)) pl xs t (desk_at pl xs t) (arrivals_in xs)
      (λ k h e bad es s. other_span has p t es (run_of (desk_at pl xs t) p) s _ (λ u. refl) _) a in
      let c : SpanAt has p t (came pl xs t).said (run_of (came pl xs t) p) = rw (arrived_going pl xs t (arrivals_in xs) (desk_at pl xs t)) b in
      let s = (looked_span t u pl.cores c).0 here in
      rw (going_next t u, desk_next pl xs t)
      (keeps_ended (λ es. SpanAt has p (suc t) es (has t)) (suc t) (ran_in pl xs t) pl.cores
      (λ q h y late es s. other_span has p (suc t) es (has t) s _ (λ u. refl) _) (ran_said t s))

  -- the spans of the cores below n end at the stop
  closed_span : (t n : ℕ) (d : Day) → SpanAt has p t d.said (going_at d p)
      → (p < n → Closed has p t (closes t n d).said) × (n ≤ p → SpanAt has p t (closes t n d).said (going_at d p))
  closed_span t zero d s = (λ h. absurd (omega (arith, h)), λ h. s)
  closed_span t (suc n) d s =
      let b = closed_span t n d s in (
        λ h. go h b.0 b.1 (ℕ_discrete p n),
        λ h. other_core has p t (closes t n d).said (going_at d p) (b.1 (omega (arith, h))) n (λ z. omega (arith, z, h)) (going_at (closes t n d) n) 0 0 t,
      )
    where
      own : SpanAt has p t (closes t p d).said (going_at d p) → Closed has p t (closes t (suc p) d).said
      own b =
          let e = closes t p d in
          let q : span_end p (going_at e p) 0 0 t ≡ span_end p (going_at d p) 0 0 t = rw (closed_past t d p p (omega arith)) refl in
          rw q (close_span has p t e.said (going_at d p) b)

      go : p < suc n → (p < n → Closed has p t (closes t n d).said) → (n ≤ p → SpanAt has p t (closes t n d).said (going_at d p)) → Dec (p ≡ n)
          → Closed has p t (closes t (suc n) d).said
      go h below at (yes q) =
          subst (λ (m : ℕ). Closed has p t (closes t (suc m) d).said) q
          (own (subst (λ (m : ℕ). SpanAt has p t (closes t m d).said (going_at d p)) (sym q) (at (omega (arith, q)))))
      go h below at (no q) =
          keeps_span (Closed has p t) n (going_at (closes t n d) n) 0 0 t (closes t n d).said
          (λ es c. other_closed has p t es c _ (λ u. rw (ne_eqb (suc n) (suc p) (λ z. q (omega (arith, z)))) refl) (λ z. absurd (q (omega (arith, z)))))
          (below (omega (arith, h, q)))

  module _ (stop : ℕ) (upto : stop ≤ clock_limit) where
    -- all spans of core p
    spans_closed : Closed has p stop (events_of pl xs stop)
    unfolding events_of
    spans_closed =
        let d = day_at pl xs stop in
        let i = is_at pl xs f stop upto in
        let s : SpanAt has p stop d.said (going_at d p) = rw (← i.desk) at (span_at stop upto) in
        keeps_each (Closed has p stop) (closes stop pl.cores d).said (Stopped (ticks stop) ∷ unfinished d pl.count) (
          (λ es c. other_closed has p stop es c _ (λ u. refl) _),
          left_each (KeptBy (Closed has p stop)) (λ x due had n es c. other_closed has p stop es c _ (λ u. refl) _) d pl.count,
        )
        ((closed_span stop pl.cores d s).0 here)

    -- its choice in a tick is a run exactly if one span covers the tick
    pub spans_cover : (t : ℕ) → t < stop → counted (covers p t) (events_of pl xs stop) ≡ bit (ltb 0 (has_in pl xs t p).task)
    spans_cover t l = spans_closed.past t l

    -- and that names it
    pub spans_name : (i n : ℕ) (a b : Ticks) → Among (Spanned (ran p i n) a b) (events_of pl xs stop) → (t : ℕ) → a.0 ≤ t → t < b.0
        → (i ≡ (has_in pl xs t p).task) × (n ≡ (has_in pl xs t p).run)
    spans_name i n a b m t from to = each_of (Names has p) (events_of pl xs stop) spans_closed.named m refl t from to
