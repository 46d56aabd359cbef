-- What is read at a place of a text is decided by few bytes from there on: a text that is cut after them gives the same.
use Rattle.std.specs.declared.option.Option.TheVariants.{Some, None}
use Prim.Native.Nat.{ℕ, zero, suc, ◌+◌, ◌-◌, ◌*◌, ◌≤◌, ◌<◌}
use mathlib.Core.Path.{◌≡◌, refl, ap, ◌∙◌}
use mathlib.Core.List.{List, [], ◌∷◌}
use native.Mathlib.Omega.{arith}
use borrow.Author.Tests.{ltb-true, eqb-false}
use lib.Dec.{ltb, eqb}
use lib.ListN.{length, get_or, take, drop}
use lib.Seq.{take-nil, get_or-take}
use Rattle.lists.proofs.Tests.{by_cases}
use Rattle.writing.specs.Ascii.{ascii, blank, newline}
use Rattle.scanning.specs.Number.{Number, digit_of, digits_of, first_of, number_at}
use Rattle.scanning.specs.Line.{Pair, followed_by, field_at, second_after, first_after, pair_at}
use Rattle.scanning.specs.Word.{starts, word_at}
use Rattle.scanning.proofs.Fields.{no_value, same_number, no_pair, same_pair}
use Rattle.day_text.specs.Line.{ArrivalLine, day_bound, stop_after, stop_line, after_time, from_time, arrival_line}

-- a number with j zeros after it
abbrev reach : ℕ → ℕ → ℕ
reach zero v = v
reach (suc j) v = reach j (v * 10)

reach_more : (j v w : ℕ) → v ≤ w → reach j v ≤ reach j w
reach_more zero v w h = h
reach_more (suc j) v w h = reach_more j (v * 10) (w * 10) (omega arith)

-- a number that passes the bound by j digits more is decided by j bytes
digits_cut : (b : ℕ) (l : List ℕ) (v at j k : ℕ) → v < b → b ≤ reach j v → j ≤ k → digits_of b (take k l) v at ≡ digits_of b l v at
unfolding digits_of
digits_cut b l v at zero k h r m = absurd (omega arith)
digits_cut b [] v at (suc j) k h r m = rw (take-nil k) refl
digits_cut b (x ∷ l) v at (suc j) zero h r m = absurd (omega arith)
digits_cut b (x ∷ l) v at (suc j) (suc k) h r m =
    by_cases (ltb (digit_of x) 10)
    (λ e. by_cases (ltb (v * 10 + digit_of x) b)
    (λ f. rw (e, f) (digits_cut b l (v * 10 + digit_of x) (at + 1) j k (ltb-true _ b f)
    (omega (arith, reach_more j (v * 10) (v * 10 + digit_of x) (omega arith))) (omega arith)))
    (λ f. rw (e, f) refl))
    (λ e. rw e refl)

-- and ends before them
digits_short : (b : ℕ) (l : List ℕ) (v at j w a : ℕ) → v < b → b ≤ reach j v → digits_of b l v at ≡ Some (w, a) → a + 1 ≤ at + j
unfolding digits_of
digits_short b l v at zero w a h r e = absurd (omega arith)
digits_short b [] v at (suc j) w a h r e = omega (arith, (same_number e).1)
digits_short b (x ∷ l) v at (suc j) w a h r e =
    by_cases (ltb (digit_of x) 10)
    (λ p. by_cases (ltb (v * 10 + digit_of x) b)
    (λ q. omega (
      arith,
      digits_short b l (v * 10 + digit_of x) (at + 1) j w a (ltb-true _ b q)
          (omega (arith, reach_more j (v * 10) (v * 10 + digit_of x) (omega arith))) (rw (p, q) at e),
    ))
    (λ q. no_value (rw (p, q) at e)))
    (λ p. let s = same_number (rw p at e) in omega (arith, s.1))

-- 10^15 is passed by fifteen digits more
fifteen : (v : ℕ) → 1 ≤ v → day_bound ≤ reach 15 v
fifteen v h = omega arith

-- a number below 10^15 is decided by sixteen bytes
first_cut : (l : List ℕ) (at k : ℕ) → 16 ≤ k → first_of day_bound (take k l) at ≡ first_of day_bound l at
unfolding first_of
first_cut [] at k h = rw (take-nil k) refl
first_cut (x ∷ l) at zero h = absurd (omega arith)
first_cut (x ∷ l) at (suc k) h =
    by_cases (ltb (digit_of x) 10)
    (λ e. by_cases (eqb (digit_of x) 0)
    (λ f. rw (e, f) refl)
    (λ f. rw (e, f) (digits_cut day_bound l (digit_of x) (at + 1) 15 k (omega (arith, ltb-true (digit_of x) 10 e))
    (fifteen (digit_of x) (omega (arith, eqb-false (digit_of x) 0 f))) (omega arith))))
    (λ e. rw e refl)

-- and ends before the last of them
first_short : (l : List ℕ) (at w a : ℕ) → first_of day_bound l at ≡ Some (w, a) → a + 1 ≤ at + 16
unfolding first_of
first_short [] at w a e = no_value e
first_short (x ∷ l) at w a e =
    by_cases (ltb (digit_of x) 10)
    (λ p. by_cases (eqb (digit_of x) 0)
    (λ q. let s = same_number (rw (p, q) at e) in omega (arith, s.1))
    (λ q. omega (
      arith,
      digits_short day_bound l (digit_of x) (at + 1) 15 w a (omega (arith, ltb-true (digit_of x) 10 p))
          (fifteen (digit_of x) (omega (arith, eqb-false (digit_of x) 0 q))) (rw (p, q) at e),
    )))
    (λ p. no_value (rw p at e))

-- a text that is cut, from a place on
drop_take : (at k : ℕ) (l : List ℕ) → drop at (take (at + k) l) ≡ take k (drop at l)
drop_take zero k l = let z : 0 + k ≡ k = omega arith in rw z refl
drop_take (suc at) k [] = let z : suc at + k ≡ suc (at + k) = omega arith in rw (z, take-nil k) refl
drop_take (suc at) k (x ∷ l) = let z : suc at + k ≡ suc (at + k) = omega arith in rw z (drop_take at k l)

drop_cut : (at n : ℕ) (l : List ℕ) → at ≤ n → drop at (take n l) ≡ take (n - at) (drop at l)
drop_cut at n l h = let z : n ≡ at + (n - at) = omega arith in ap (λ (k : ℕ). drop at (take k l)) z ∙ drop_take at (n - at) l

-- a word is decided by its own bytes
starts_cut : (w l : List ℕ) (k : ℕ) → length w ≤ k → starts w (take k l) ≡ starts w l
starts_cut [] l k h = refl
starts_cut (c ∷ w) l zero h = absurd (omega arith)
starts_cut (c ∷ w) [] (suc k) h = refl
starts_cut (c ∷ w) (x ∷ l) (suc k) h = rw (starts_cut w l k (omega arith)) refl

module _ (n : ℕ) (s : List ℕ) where
  number_cut : (at : ℕ) → at + 16 ≤ n → number_at day_bound (take n s) at ≡ number_at day_bound s at
  unfolding number_at
  number_cut at h = ap (λ (l : List ℕ). first_of day_bound l at) (drop_cut at n s (omega arith)) ∙ first_cut (drop at s) at (n - at) (omega arith)

  -- a number and the byte after it
  field_cut : (e at : ℕ) → at + 16 ≤ n → field_at day_bound (take n s) e at ≡ field_at day_bound s e at
  unfolding field_at number_at followed_by
  field_cut e at h = ap (followed_by (take n s) e) (number_cut at h) ∙ go (first_of day_bound (drop at s) at) (λ w a q. first_short (drop at s) at w a q)
    where
      go : (m : Number) → ((w a : ℕ) → m ≡ Some (w, a) → a + 1 ≤ at + 16) → followed_by (take n s) e m ≡ followed_by s e m
      go (Some (w, a)) f = rw (get_or-take n s a 0 (omega (arith, f w a refl))) refl
      go None f = refl

  -- a word
  word_cut : (w : List ℕ) (at : ℕ) → at + length w ≤ n → word_at w (take n s) at ≡ word_at w s at
  unfolding word_at
  word_cut w at h =
      let e : starts w (drop at (take n s)) ≡ starts w (drop at s) =
      ap (starts w) (drop_cut at n s (omega arith)) ∙ starts_cut w (drop at s) (n - at) (omega arith) in
      rw e refl

-- a number and the byte after it are sixteen bytes at most
field_short : (s : List ℕ) (e at v a : ℕ) → field_at day_bound s e at ≡ Some (v, a) → a ≤ at + 16
unfolding field_at number_at followed_by
field_short s e at v a = go (first_of day_bound (drop at s) at) (λ w p q. first_short (drop at s) at w p q)
  where
    go : (m : Number) → ((w p : ℕ) → m ≡ Some (w, p) → p + 1 ≤ at + 16) → followed_by s e m ≡ Some (v, a) → a ≤ at + 16
    go (Some (w, p)) f g =
        by_cases (eqb (get_or s p 0) e)
        (λ k. let i = same_number (rw k at g) in omega (arith, i.1, f w p refl))
        (λ k. no_value (rw k at g))
    go None f g = no_value g

-- two numbers on a line are thirty-two at most
pair_short : (s : List ℕ) (at x y a : ℕ) → pair_at day_bound s at ≡ Some (x, y, a) → a ≤ at + 32
unfolding pair_at first_after second_after
pair_short s at x y a = go (field_at day_bound s blank at) (λ w p q. field_short s blank at w p q)
  where
    second : (u p : ℕ) (m : Number) → p ≤ at + 16 → ((w q : ℕ) → m ≡ Some (w, q) → q ≤ p + 16) → second_after u m ≡ Some (x, y, a) → a ≤ at + 32
    second u p (Some (w, q)) h f e = let i = same_pair e in omega (arith, i.2, f w q refl)
    second u p None h f e = no_pair e

    go : (m : Number) → ((w p : ℕ) → m ≡ Some (w, p) → p ≤ at + 16) → first_after day_bound s m ≡ Some (x, y, a) → a ≤ at + 32
    go (Some (u, p)) f e = second u p (field_at day_bound s newline p) (f u p refl) (λ w q r. field_short s newline p w q r) e
    go None f e = no_pair e

-- a stop's line is twenty-five at most
pub stop_short : (s : List ℕ) (at v a : ℕ) → stop_line s at ≡ Some (v, a) → a ≤ at + 25
unfolding stop_line stop_after word_at
stop_short s at v a e =
    by_cases (starts (ascii "rehearse ") (drop at s))
    (λ h. omega (arith, field_short s newline (at + 9) v a (rw h at e)))
    (λ h. no_value (rw h at e))

no_line : {A : Type 0} {t i l a : ℕ} → ◌≡◌ {A = ArrivalLine} None (Some (t, i, l, a)) → A
no_line e = let z : ◌≡◌ {A = ℕ} 0 1 = cc in absurd (omega arith)

-- two lines that are equal end at one place
same_end : {t i l a u j m b : ℕ} → ◌≡◌ {A = ArrivalLine} (Some (t, i, l, a)) (Some (u, j, m, b)) → a ≡ b
same_end e = ap (λ (line : ArrivalLine). place line) e
  where
    place : ArrivalLine → ℕ
    place (Some (t, i, l, a)) = a
    place None = 0

-- an arrival's line is forty-eight at most
pub line_short : (s : List ℕ) (at t i l a : ℕ) → arrival_line s at ≡ Some (t, i, l, a) → a ≤ at + 48
unfolding arrival_line from_time after_time
line_short s at t i l a = go (field_at day_bound s blank at) (λ w p q. field_short s blank at w p q)
  where
    rest : (u p : ℕ) (m : Pair) → p ≤ at + 16 → ((x y q : ℕ) → m ≡ Some (x, y, q) → q ≤ p + 32) → after_time u m ≡ Some (t, i, l, a) → a ≤ at + 48
    rest u p (Some (x, y, q)) h f e = omega (arith, same_end e, f x y q refl)
    rest u p None h f e = no_line e

    go : (m : Number) → ((w p : ℕ) → m ≡ Some (w, p) → p ≤ at + 16) → from_time s m ≡ Some (t, i, l, a) → a ≤ at + 48
    go (Some (u, p)) f e = rest u p (pair_at day_bound s p) (f u p refl) (λ x y q r. pair_short s p x y q r) e
    go None f e = no_line e

module _ (n : ℕ) (s : List ℕ) where
  -- the same for two numbers
  pair_cut : (at : ℕ) → at + 32 ≤ n → pair_at day_bound (take n s) at ≡ pair_at day_bound s at
  unfolding pair_at first_after
  pair_cut at h =
      ap (first_after day_bound (take n s)) (field_cut n s blank at (omega arith))
      ∙ go (field_at day_bound s blank at) (λ w p q. field_short s blank at w p q)
    where
      go : (m : Number) → ((w p : ℕ) → m ≡ Some (w, p) → p ≤ at + 16) → first_after day_bound (take n s) m ≡ first_after day_bound s m
      go (Some (u, p)) f = ap (second_after u) (field_cut n s newline p (omega (arith, f u p refl)))
      go None f = refl

  -- a stop's line
  pub stop_cut : (at : ℕ) → at + 25 ≤ n → stop_line (take n s) at ≡ stop_line s at
  unfolding stop_line stop_after word_at
  stop_cut at h =
      ap (stop_after (take n s)) (word_cut n s (ascii "rehearse ") at (omega arith))
      ∙ by_cases (starts (ascii "rehearse ") (drop at s)) (λ e. rw e (field_cut n s newline (at + 9) (omega arith))) (λ e. rw e refl)

  -- an arrival's
  pub line_cut : (at : ℕ) → at + 48 ≤ n → arrival_line (take n s) at ≡ arrival_line s at
  unfolding arrival_line from_time
  line_cut at h =
      ap (from_time (take n s)) (field_cut n s blank at (omega arith))
      ∙ go (field_at day_bound s blank at) (λ w p q. field_short s blank at w p q)
    where
      go : (m : Number) → ((w p : ℕ) → m ≡ Some (w, p) → p ≤ at + 16) → from_time (take n s) m ≡ from_time s m
      go (Some (u, p)) f = ap (after_time u) (pair_cut p (omega (arith, f u p refl)))
      go None f = refl
