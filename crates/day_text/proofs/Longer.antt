-- What an input says is decided by its first 200,730 bytes.
use Rattle.std.specs.declared.option.Option.TheVariants.{Some, None}
use Prim.Native.Nat.{ℕ, zero, suc, ◌+◌, ◌-◌, ◌*◌, ◌≤◌, ◌<◌}
use mathlib.Core.Path.{◌≡◌, refl, sym, ap, ap₂, ◌∙◌}
use mathlib.Core.Bool.{Bool}
use mathlib.Core.List.{List, ◌∷◌}
use native.Mathlib.Decide.{dec_lt}
use native.Mathlib.Omega.{arith}
use borrow.Author.Tests.{lt-ltb}
use lib.Dec.{ltb}
use lib.ListN.{length, take}
use lib.Seq.{length-take-le, take_all, take-take, get_or-take}
use Rattle.lists.proofs.Tests.{by_cases}
use Rattle.line_place.specs.Place.{first_place}
use Rattle.table_text.specs.Text.{Said, says, unreadable as no_table, text_of}
use Rattle.table_text.proofs.Says.{text_long}
use Rattle.scanning.specs.Number.{Number}
use Rattle.day_text.specs.Line.{ArrivalLine, stop_line, stop_here, stop_place, arrival_line}
use Rattle.day_text.specs.Input.{
  rehearses,
  unreadable,
  lines_limit,
  input_limit,
  then_later,
  arrivals_from,
  then_place,
  place_after,
  after_stop,
  after_table,
  day_of,
}
use Rattle.day_text.proofs.Cut.{stop_short, line_short, stop_cut, line_cut}

module _ (n : ℕ) (s : List ℕ) where
  -- the arrivals from a place on, of f lines: they end forty-eight bytes or less after each
  arrivals_cut : (f at : ℕ) → at + 48 * f ≤ n → arrivals_from f (take n s) at ≡ arrivals_from f s at
  unfolding arrivals_from then_later
  arrivals_cut zero at h = refl
  arrivals_cut (suc f) at h =
      ap (then_later (λ next. arrivals_from f (take n s) next)) (line_cut n s at (omega arith))
      ∙ go (arrival_line s at) (λ t i l a e. line_short s at t i l a e) (λ next k. arrivals_cut f next (omega arith))
    where
      go : (line : ArrivalLine) → ((t i l a : ℕ) → line ≡ Some (t, i, l, a) → a ≤ at + 48)
          → ((next : ℕ) → next ≤ at + 48 → arrivals_from f (take n s) next ≡ arrivals_from f s next)
          → then_later (λ next. arrivals_from f (take n s) next) line ≡ then_later (λ next. arrivals_from f s next) line
      go (Some (t, i, l, a)) g later = ap (λ (ys : List ℕ). t ∷ i ∷ l ∷ ys) (later a (g t i l a refl))
      go None g later = refl

  place_cut : (f at : ℕ) → at + 48 * f ≤ n → place_after f (take n s) at ≡ place_after f s at
  unfolding place_after then_place
  place_cut zero at h = refl
  place_cut (suc f) at h =
      ap (then_place (λ next. place_after f (take n s) next) at) (line_cut n s at (omega arith))
      ∙ go (arrival_line s at) (λ t i l a e. line_short s at t i l a e) (λ next k. place_cut f next (omega arith))
    where
      go : (line : ArrivalLine) → ((t i l a : ℕ) → line ≡ Some (t, i, l, a) → a ≤ at + 48)
          → ((next : ℕ) → next ≤ at + 48 → place_after f (take n s) next ≡ place_after f s next)
          → then_place (λ next. place_after f (take n s) next) at line ≡ then_place (λ next. place_after f s next) at line
      go (Some (t, i, l, a)) g later = later a (g t i l a refl)
      go None g later = refl

place_short : (s : List ℕ) (f at : ℕ) → place_after f s at ≤ at + 48 * f
unfolding place_after then_place
place_short s zero at = omega arith
place_short s (suc f) at = go (arrival_line s at) (λ t i l a e. line_short s at t i l a e) (λ next. place_short s f next)
  where
    go : (line : ArrivalLine) → ((t i l a : ℕ) → line ≡ Some (t, i, l, a) → a ≤ at + 48) → ((next : ℕ) → place_after f s next ≤ next + 48 * f)
        → then_place (λ next. place_after f s next) at line ≤ at + 48 * suc f
    go (Some (t, i, l, a)) g later = omega (arith, later a, g t i l a refl)
    go None g later = omega arith

-- the first place of a test: no earlier than where it is looked for, and no later than its end
first_from : (f : ℕ → Bool) (n at : ℕ) → (at ≤ first_place f n at) × (first_place f n at ≤ at + n)
unfolding first_place
first_from f zero at = (omega arith, omega arith)
first_from f (suc n) at =
    let h = first_from f n (at + 1) in
    by_cases (f at) (λ e. rw e (omega arith, omega arith)) (λ e. rw e (omega (arith, h.0), omega (arith, h.1)))

-- tests that agree up to a place have the same first place up to there
first_same : (f g : ℕ → Bool) (k n m at : ℕ) → ((q : ℕ) → q ≤ k → f q ≡ g q) → first_place f n at ≤ k → k < at + n → k < at + m
    → first_place g m at ≡ first_place f n at
unfolding first_place
first_same f g k zero m at same h a b = absurd (omega arith)
first_same f g k (suc n) zero at same h a b = absurd (omega (arith, (first_from f (suc n) at).0))
first_same f g k (suc n) (suc m) at same h a b =
    let e = same at (omega (arith, (first_from f (suc n) at).0)) in
    by_cases (f at)
    (λ t. rw (← e, t) refl)
    (λ t. rw (← e, t) (first_same f g k n m (at + 1) same (rw t at h) (omega arith) (omega arith)))

-- where the stop's line stands past 4,096 bytes, the table's text is too long
far : (t : List ℕ) → 4096 < stop_place t → day_of t ≡ unreadable 0
unfolding day_of after_table stop_place
far t h =
    let p = (first_from (stop_here t) (length t) 0).1 in
    let e : length (take (first_place (stop_here t) (length t) 0) t) ≡ first_place (stop_here t) (length t) 0 =
    length-take-le (first_place (stop_here t) (length t) 0) t (omega (arith, p)) in
    rw (text_long (take (first_place (stop_here t) (length t) 0) t) (omega (arith, h, e))) refl

-- a longer input that is cut after n bytes
module _ (n : ℕ) (s : List ℕ) (enough : input_limit ≤ n) (longer : n ≤ length s) where
  cut_length : length (take n s) ≡ n
  cut_length = length-take-le n s longer

  here_same : (q : ℕ) → q ≤ 4096 → stop_here s q ≡ stop_here (take n s) q
  unfolding stop_here
  here_same q h = rw (stop_cut n s q (omega arith), get_or-take n s (q - 1) 0 (omega arith)) refl

  place_same : stop_place s ≤ 4096 → stop_place (take n s) ≡ stop_place s
  unfolding stop_place
  place_same h =
      first_same (stop_here s) (stop_here (take n s)) 4096 (length s) (length (take n s)) 0 here_same h (omega arith) (omega (arith, cut_length))

  place_back : stop_place (take n s) ≤ 4096 → stop_place s ≡ stop_place (take n s)
  unfolding stop_place
  place_back h =
      first_same (stop_here (take n s)) (stop_here s) 4096 (length (take n s)) (length s) 0 (λ q l. sym (here_same q l)) h
      (omega (arith, cut_length)) (omega arith)

  -- something is left in both
  more_same : (at : ℕ) → at ≤ 4121
      → ltb (place_after lines_limit (take n s) at) (length (take n s)) ≡ ltb (place_after lines_limit s at) (length s)
  more_same at h =
      let p = place_short s lines_limit at in
      let e = place_cut n s lines_limit at (omega arith) in
      lt-ltb (place_after lines_limit (take n s) at) (length (take n s)) (omega (arith, p, e, cut_length))
      ∙ sym (lt-ltb (place_after lines_limit s at) (length s) (omega (arith, p)))

  stop_same : (m : ℕ) (xs : List ℕ) (w : Number) → ((stop at : ℕ) → w ≡ Some (stop, at) → at ≤ 4121) → after_stop (take n s) m xs w ≡ after_stop s m xs w
  unfolding after_stop
  stop_same m xs (Some (stop, at)) f =
      let h = f stop at refl in
      ap₂ (rehearses m xs stop) (arrivals_cut n s lines_limit at (omega arith)) (more_same at h)
  stop_same m xs None f = refl

  table_same : (p : ℕ) (w : Said) → p ≤ 4096 → after_table (take n s) p w ≡ after_table s p w
  unfolding after_table
  table_same p (says m xs) h =
      ap (after_stop (take n s) m xs) (stop_cut n s p (omega arith))
      ∙ stop_same m xs (stop_line s p) (λ stop at e. omega (arith, stop_short s p stop at e))
  table_same p (no_table line) h = refl

  near : stop_place s ≤ 4096 → day_of (take n s) ≡ day_of s
  unfolding day_of
  near h =
      let e = place_same h in
      let t : take (stop_place (take n s)) (take n s) ≡ take (stop_place s) s =
      ap (λ (p : ℕ). take p (take n s)) e ∙ take-take (stop_place s) n s (omega arith) in
      ap₂ (λ (p : ℕ) (u : List ℕ). after_table (take n s) p (text_of u)) e t ∙ table_same (stop_place s) (text_of (take (stop_place s) s)) h

  cut_same : day_of (take n s) ≡ day_of s
  cut_same =
      elim (dec_lt 4096 (stop_place s)) [
        | yes h ↦ far (take n s) (elim (dec_lt 4096 (stop_place (take n s))) [
          | yes k ↦ k
          | no k ↦ absurd (omega (arith, place_back (omega (arith, k)), h, k))
        ]) ∙ sym (far s h)
        | no h ↦ near (omega (arith, h))
      ]

-- any input
pub decided : (s : List ℕ) → day_of (take input_limit s) ≡ day_of s
decided s =
    elim (dec_lt (length s) input_limit) [
      | yes h ↦ ap day_of (take_all input_limit s (omega (arith, h)))
      | no h ↦ cut_same input_limit s (omega arith) (omega (arith, h))
    ]
