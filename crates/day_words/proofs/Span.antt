-- Spans of one core: those said, and the run that has it since an instant, cover each tick in which it has a run.
use Prim.Native.Nat.{ℕ, suc, ◌+◌, ◌≤◌, ◌<◌}
use mathlib.Core.Path.{◌≡◌, refl, ◌∙◌}
use mathlib.Core.Bool.{Bool, true, false, ◌&&◌, ◌||◌}
use mathlib.Core.List.{List, [], ◌∷◌, ◌++◌, append-nil}
use native.Mathlib.Decide.{ℕ_discrete}
use native.Mathlib.Omega.{arith}
use lib.Dec.{ltb, leb, eqb}
use borrow.Author.Tests.{lt-ltb, le-ltb, le-leb, lt-leb, eq-eqb, ne_eqb, eqb-true, eqb-false}
use Rattle.lists.specs.Lists.{bit}
use Rattle.lists.proofs.Tests.{by_cases}
use Rattle.units.specs.Units.{ticks}
use Rattle.goings.specs.declared.Going.{Going}
use Rattle.goings.specs.Going.{same, going_of}
use Rattle.day_lines.specs.declared.Event.{Event}
use Rattle.day_lines.specs.declared.Event.TheVariants.{Finished, Refused, Spanned, Stopped, Unfinished}
use Rattle.day_rules.specs.Day.{ran, span_end}
use Rattle.day_words.specs.Words.{counted, covers}
use Rattle.day_words.proofs.Said.{Each, each_more, counted_one}

-- a span of core p names the run that the core has in each tick of it
abbrev pub Names : (ℕ → Going) → ℕ → Event → Type 0
Names has p (Finished x t late) = Unit {0}
Names has p (Refused n a i t) = Unit {0}
Names has p (Spanned x from to) = x.core ≡ suc p → (u : ℕ) → from.0 ≤ u → u < to.0 → (x.task ≡ (has u).task) × (x.run ≡ (has u).run)
Names has p (Stopped t) = Unit {0}
Names has p (Unfinished x due had n) = Unit {0}

-- core p at t, `has` the run that it has in each tick: what was said, and the run that has it then
pub record SpanAt (has : ℕ → Going) (p t : ℕ) (es : List Event) (g : Going) : Type 0 where
  pub from : g.from.0 ≤ t
  pub past : (u : ℕ) → u < t → counted (covers p u) es + bit (leb g.from.0 u && ltb 0 g.task) ≡ bit (ltb 0 (has u).task)
  pub ahead : (u : ℕ) → t ≤ u → counted (covers p u) es ≡ 0
  pub named : Each (Names has p) es
  pub going : (u : ℕ) → g.from.0 ≤ u → u < t → (g.task ≡ (has u).task) × (g.run ≡ (has u).run)

-- all spans are said
pub record Closed (has : ℕ → Going) (p t : ℕ) (es : List Event) : Type 0 where
  pub past : (u : ℕ) → u < t → counted (covers p u) es ≡ bit (ltb 0 (has u).task)
  pub named : Each (Names has p) es

-- another thing is said
pub other_closed : (has : ℕ → Going) (p t : ℕ) (es : List Event) → Closed has p t es → (e : Event) → ((u : ℕ) → covers p u e ≡ false) → Names has p e
    → Closed has p t (es ++ (e ∷ []))
other_closed has p t es c e h n = record {
  past = λ u l. counted_one (covers p u) es e ∙ rw (h u) (omega (arith, c.past u l));
  named = each_more (Names has p) es (e ∷ []) c.named (n, _);
}

and_false : (a b : Bool) → b ≡ false → (a && b) ≡ false
and_false true b e = e
and_false false b e = refl

module _ (has : ℕ → Going) (p t : ℕ) (es : List Event) (g : Going) (s : SpanAt has p t es g) where
  -- another thing is said
  pub other_span : (e : Event) → ((u : ℕ) → covers p u e ≡ false) → Names has p e → SpanAt has p t (es ++ (e ∷ [])) g
  other_span e h n = record {
    from = s.from;
    past = λ u l. let c : counted (covers p u) (es ++ (e ∷ [])) ≡ counted (covers p u) es = same_count u in omega (arith, c, s.past u l);
    ahead = λ u l. same_count u ∙ s.ahead u l;
    named = each_more (Names has p) es (e ∷ []) s.named (n, _);
    going = s.going;
  }
    where
      same_count : (u : ℕ) → counted (covers p u) (es ++ (e ∷ [])) ≡ counted (covers p u) es
      same_count u = counted_one (covers p u) es e ∙ rw (h u) (omega arith)

  -- a span of another core ends
  pub other_core : (q : ℕ) → (q ≡ p → ⊥) → (g' : Going) (i n w : ℕ) → SpanAt has p t (es ++ span_end q g' i n w) g
  other_core q d g' i n w =
      by_cases (same g' i n || eqb g'.task 0)
      (λ e. rw (e, append-nil es) s)
      (λ e. rw e (other_span (Spanned (ran q g'.task g'.run) g'.from (ticks w))
      (λ u. rw (ne_eqb (suc q) (suc p) (λ z. d (omega (arith, z)))) refl)
      (λ z. absurd (d (omega (arith, z))))))

  -- the run goes on
  goes_on : has t ≡ g → SpanAt has p (suc t) es g
  goes_on q = record {
    from = omega (arith, s.from);
    past = λ u l. past u l (ℕ_discrete u t);
    ahead = λ u l. s.ahead u (omega (arith, l));
    named = s.named;
    going = λ u a l. going u a l (ℕ_discrete u t);
  }
    where
      past : (u : ℕ) → u < suc t → Dec (u ≡ t) → counted (covers p u) es + bit (leb g.from.0 u && ltb 0 g.task) ≡ bit (ltb 0 (has u).task)
      past u l (yes e) = rw (e, s.ahead t (omega arith), q, le-leb g.from.0 t s.from) (omega arith)
      past u l (no e) = s.past u (omega (arith, l, e))

      going : (u : ℕ) → g.from.0 ≤ u → u < suc t → Dec (u ≡ t) → (g.task ≡ (has u).task) × (g.run ≡ (has u).run)
      going u a l (yes e) = rw (e, q) (refl, refl)
      going u a l (no e) = s.going u a (omega (arith, l, e))

  -- its span is said
  abbrev ending : Event
  ending = Spanned (ran p g.task g.run) g.from (ticks t)

  -- it covers the ticks since it went
  ending_past : (u : ℕ) → u < t → covers p u ending ≡ leb g.from.0 u
  ending_past u l = rw (eq-eqb (suc p) (suc p) refl, lt-ltb u t l) (by_cases (leb g.from.0 u) (λ e. rw e refl) (λ e. rw e refl))

  ending_ahead : (u : ℕ) → t ≤ u → covers p u ending ≡ false
  ending_ahead u l = and_false (eqb (suc p) (suc p) && leb g.from.0 u) (ltb u t) (le-ltb u t l)

  pub close_none : g.task ≡ 0 → Closed has p t es
  close_none z = record {
    past = λ u l.
        let n : bit (leb g.from.0 u && ltb 0 g.task) ≡ 0 = rw (z, and_false (leb g.from.0 u) (ltb 0 0) (le-ltb 0 0 (omega arith))) refl in
        omega (arith, n, s.past u l);
    named = s.named;
  }

  close_one : (g.task ≡ 0 → ⊥) → Closed has p t (es ++ (ending ∷ []))
  close_one z = record {
    past = λ u l.
        let c : counted (covers p u) (es ++ (ending ∷ [])) ≡ counted (covers p u) es + bit (leb g.from.0 u) =
        counted_one (covers p u) es ending ∙ rw (ending_past u l) refl in
        let n : bit (leb g.from.0 u && ltb 0 g.task) ≡ bit (leb g.from.0 u) =
        rw (lt-ltb 0 g.task (omega (arith, z))) (by_cases (leb g.from.0 u) (λ e. rw e refl) (λ e. rw e refl)) in
        omega (arith, c, n, s.past u l);
    named = each_more (Names has p) es (ending ∷ []) s.named ((λ e u a l. s.going u a l), _);
  }

  -- at the stop, by no run
  pub close_span : Closed has p t (es ++ span_end p g 0 0 t)
  close_span =
      by_cases (eqb g.task 0)
      (λ z. by_cases (same g 0 0)
      (λ e. rw (e, append-nil es) (close_none (eqb-true g.task 0 z)))
      (λ e. rw (e, z, append-nil es) (close_none (eqb-true g.task 0 z))))
      (λ z. rw z (close_one (eqb-false g.task 0 z)))

  -- another run, that core p has in tick t, goes from t on
  module _ (i n : ℕ) (fs : List Event) (c : Closed has p t (es ++ fs)) (none : (u : ℕ) → t ≤ u → counted (covers p u) (es ++ fs) ≡ 0) where
    abbrev next : Going
    next = record { task = i; run = n; from = ticks t }

    from_now : has t ≡ next → SpanAt has p (suc t) (es ++ fs) next
    from_now q = record {
      from = omega arith;
      past = λ u l. past u l (ℕ_discrete u t);
      ahead = λ u l. none u (omega (arith, l));
      named = c.named;
      going = λ u a l. let e : u ≡ t = omega (arith, a, l) in rw (e, q) (refl, refl);
    }
      where
        past : (u : ℕ) → u < suc t → Dec (u ≡ t) → counted (covers p u) (es ++ fs) + bit (leb t u && ltb 0 i) ≡ bit (ltb 0 (has u).task)
        past u l (yes e) = rw (e, none t (omega arith), q, le-leb t t (omega arith)) (omega arith)
        past u l (no e) = rw (lt-leb t u (omega (arith, l, e)), c.past u (omega (arith, l, e))) (omega arith)

  -- core p is looked at, at t
  pub look_span : (i n : ℕ) → has t ≡ going_of g i n t → SpanAt has p (suc t) (es ++ span_end p g i n t) (going_of g i n t)
  look_span i n q =
      by_cases (same g i n)
      (λ e. rw (e, append-nil es) (goes_on (rw e at q)))
      (λ e. by_cases (eqb g.task 0)
      (λ z. rw (e, z) (from_now i n [] (rw (append-nil es) (close_none (eqb-true g.task 0 z))) (λ u l. rw (append-nil es) (s.ahead u l)) (rw e at q)))
      (λ z. rw (e, z)
      (from_now i n (ending ∷ []) (close_one (eqb-false g.task 0 z))
      (λ u l. counted_one (covers p u) es ending ∙ rw (ending_ahead u l, s.ahead u l) refl) (rw e at q))))
