-- The spans that end where an instant's choices have the cores from now on, and the list of who has them.
use Prim.Native.Nat.{ℕ, ◌+◌, ◌*◌, ◌≤◌, ◌<◌}
use mathlib.Core.Path.{◌≡◌, refl, sym, ap, ◌∙◌}
use mathlib.Core.List.{List, ◌++◌}
use native.Mathlib.Omega.{arith}
use native.Mathlib.Nat.{le_antisymm}
use native.Mathlib.Numerals.{add-one}
use lib.ListN.{length, get_or}
use Rattle.units.specs.Limits.{cores_limit}
use Rattle.goings.specs.declared.Going.{Going}
use Rattle.goings.specs.Going.{no_going, going_of}
use Rattle.goings.specs.Rows.{going_at, goings_in, put_going}
use Rattle.goings.proofs.Rows.{goings_long, goings_at}
use Rattle.instants.specs.declared.Seen.{Seen}
use Rattle.instants.specs.Seen.{idle}
use Rattle.instants.specs.Goings.{goings_of, gone_on}
use Rattle.instants.proofs.GoingsAt.{goings_past, goings_at as Goes-at}
use Rattle.instants.proofs.GoneOn.{gone_long, gone_are}
use Rattle.day_lines.specs.declared.Event.{Event}
use Rattle.day_lines.specs.Lines.{events_text}
use Rattle.day_window.specs.Window.{Windowed}
use Rattle.day_window.proofs.Saying.{Saying, begun, onward, all}
use Rattle.day_rules.specs.Day.{span_end}
use Rattle.day_rules.specs.Spans.{spans_end}

-- the spans of one core more
spans_more : (gs hs : List Going) (t p : ℕ)
    → spans_end gs hs t p ++ span_end p (get_or gs p no_going) (get_or hs p no_going).task (get_or hs p no_going).run t ≡ spans_end gs hs t (p + 1)
spans_more gs hs t p = ap (spans_end gs hs t) (sym (add-one p))

module _ (xs : List ℕ) (ss : List Seen) (t n : ℕ) where
  -- the spans of the first k cores
  abbrev said : ℕ → List Event
  said k = spans_end (goings_in xs) (goings_of (goings_in xs) ss t n) t k

  -- what core k has, of a run that had it
  abbrev goes_at : ℕ → Going → Going
  goes_at k g = going_of g (get_or ss k idle).task (get_or ss k idle).run t

  -- who has the first k cores is stored, and the spans that end there are written
  pub record Ending (before : List ℕ) (skip at : ℕ) (now ys : List ℕ) (end k : ℕ) : Type 0 where
    pub saying : Saying 180 said n before skip at now end k
    pub gone : ys ≡ gone_on xs ss t k

  pub start : (before : List ℕ) (skip at : ℕ) → Ending before skip at before xs at 0
  unfolding gone_on
  start before skip at = record { saying = begun 180 said n before skip at refl; gone = refl }

  module _ (wide : length xs ≡ 3 * cores_limit) (few : n ≤ cores_limit) (k : ℕ) (l : k < n) where
    -- what had core k, and what has it
    had_it : going_at (gone_on xs ss t k) k ≡ get_or (goings_in xs) k no_going
    had_it =
        sym (goings_at (gone_on xs ss t k) k (omega (arith, l, few)))
        ∙ ap (λ (gs : List Going). get_or gs k no_going) (gone_are xs ss t wide k (omega (arith, l, few)))
        ∙ goings_past (goings_in xs) ss t k k (omega arith)

    has_it : goes_at k (get_or (goings_in xs) k no_going) ≡ get_or (goings_of (goings_in xs) ss t n) k no_going
    has_it = sym (Goes-at (goings_in xs) ss t n k l (omega (arith, few, goings_long xs)))

    -- the span that ends there is the next to be told
    next_span : {g h : Going} → g ≡ going_at (gone_on xs ss t k) k → h ≡ goes_at k g → said k ++ span_end k g h.task h.run t ≡ said (k + 1)
    next_span {g} {h} e f =
        let had = e ∙ had_it in
        let has = f ∙ ap (goes_at k) had ∙ has_it in
        ap (λ (o : Going). said k ++ span_end k o h.task h.run t) had
        ∙ ap (λ (o : Going). said k ++ span_end k (get_or (goings_in xs) k no_going) o.task o.run t) has
        ∙ spans_more (goings_in xs) (goings_of (goings_in xs) ss t n) t k

    next_gone : {g h : Going} {ys zs : List ℕ} → ys ≡ gone_on xs ss t k → g ≡ going_at ys k → h ≡ goes_at k g → zs ≡ put_going ys k h → zs
        ≡ gone_on xs ss t (k + 1)
    unfolding gone_on
    next_gone e f q z = z ∙ rw (q, f, e, add-one k) refl

    -- one core more
    pub more : {before now now' ys zs : List ℕ} {skip at end end' : ℕ} {g h : Going} → Ending before skip at now ys end k
        → g ≡ going_at ys k → h ≡ goes_at k g → Windowed now skip end (events_text (span_end k g h.task h.run t)) now' end'
        → end' ≤ end + 180 → zs ≡ put_going ys k h → Ending before skip at now' zs end' (k + 1)
    more {g = g} {h = h} e p q w b z = record {
      saying = onward 180 said n e.saying (span_end k g h.task h.run t) l (next_span (rw e.gone at p) q) w b refl;
      gone = next_gone e.gone p q z;
    }

  module _ {before now ys : List ℕ} {skip at end k : ℕ} (e : Ending before skip at now ys end k) where
    -- as many numbers
    pub as_many : length ys ≡ length xs
    as_many = ap length e.gone ∙ gone_long xs ss t k

    -- all cores
    pub whole : n ≤ k → Windowed before skip at (events_text (said n)) now end × ((end ≤ at + 180 * n) × (ys ≡ gone_on xs ss t n))
    whole l =
        let s = e.saying in
        let m = le_antisymm s.inside l in
        (all 180 said n s l, (omega (arith, s.near, m), e.gone ∙ ap (gone_on xs ss t) m))
