-- The equations of a line, as the code meets them; how many bytes it has at least, and that its numbers are below the bound.
use Rattle.std.specs.declared.option.Option.TheVariants.{Some, None}
use Rattle.std.specs.Prelude.{Option}
use Prim.Native.Nat.{ℕ, ◌+◌, ◌-◌, ◌*◌, ◌≤◌, ◌<◌}
use mathlib.Core.Path.{◌≡◌, refl, sym, ap, ◌∙◌}
use mathlib.Core.List.{List, [], ◌∷◌}
use native.Mathlib.Omega.{arith}
use native.Mathlib.Decide.{dec_lt}
use borrow.Author.Tests.{eq-eqb, ne_eqb, eqb-true, ltb-true}
use lib.Dec.{ltb, eqb}
use lib.ListN.{length, get_or, take, drop, length-drop, get_or-eq_default}
use lib.Seq.{take-length}
use Rattle.lists.proofs.Tests.{by_cases}
use Rattle.writing.specs.Ascii.{blank, newline}
use Rattle.scanning.specs.Number.{digit_of, digits_of, first_of, number_at}
use Rattle.scanning.specs.Line.{Pair, followed_by, field_at, second_after, first_after, pair_by, pair_at}
use Rattle.scanning.specs.Number.{Number}

-- a byte that is not 0 stands within the text
pub inside : (s : List ℕ) (at b : ℕ) → 0 < b → get_or s at 0 ≡ b → at < length s
inside s at b p e = elim (dec_lt at (length s)) [ yes h ↦ h | no h ↦ (let k : length s ≤ at = omega arith in omega (arith, get_or-eq_default s 0 k)) ]

module _ (b : ℕ) (s : List ℕ) (e at : ℕ) where
  -- no number
  pub field_none : number_at b s at ≡ None → field_at b s e at ≡ None
  unfolding field_at followed_by
  field_none p = rw p

  -- a number and the byte after it
  pub field_is : {v a : ℕ} → number_at b s at ≡ Some (v, a) → get_or s a 0 ≡ e → field_at b s e at ≡ Some (v, a + 1)
  unfolding field_at followed_by
  field_is p h = rw (p, eq-eqb _ e h)

  -- another byte after it
  pub field_other : {v a : ℕ} → number_at b s at ≡ Some (v, a) → (get_or s a 0 ≡ e → ⊥) → field_at b s e at ≡ None
  unfolding field_at followed_by
  field_other p h = rw (p, ne_eqb _ e h)

-- what a number, a field or a line that was read keeps: it ends k bytes or more after its place, below the bound
abbrev Kept : ℕ → ℕ → ℕ → ℕ → ℕ → Type 0
Kept b k at v a = (v < b) × (at + k ≤ a)

-- one that was read is no other
pub no_value : {A : Type 0} {v a : ℕ} → ◌≡◌ {A = Number} None (Some (v, a)) → A
no_value e = let z : ◌≡◌ {A = ℕ} 0 1 = cc in absurd (omega arith)

-- two that are equal have equal parts
pub same_number : {v at w a : ℕ} → ◌≡◌ {A = Number} (Some (v, at)) (Some (w, a)) → (v ≡ w) × (at ≡ a)
same_number e = (ap (λ (n : Number). value n) e, ap (λ (n : Number). place n) e)
  where
    value : Number → ℕ
    value (Some (v, at)) = v
    value None = 0

    place : Number → ℕ
    place (Some (v, at)) = at
    place None = 0

-- the digits after a number's first
digits_kept : (b : ℕ) (l : List ℕ) (v at w a : ℕ) → v < b → digits_of b l v at ≡ Some (w, a) → Kept b 0 at w a
unfolding digits_of
digits_kept b [] v at w a p e = let s = same_number e in (omega (arith, s.0), omega (arith, s.1))
digits_kept b (x ∷ l) v at w a p e =
    by_cases (ltb (digit_of x) 10)
    (λ h. by_cases (ltb (v * 10 + digit_of x) b)
    (λ k. let z : Kept b 0 (at + 1) w a = digits_kept b l (v * 10 + digit_of x) (at + 1) w a (ltb-true _ b k) (rw (h, k) at e) in (z.0, omega (arith, z.1)))
    (λ k. no_value (rw (h, k) at e)))
    (λ h. let s = same_number (rw h at e) in (omega (arith, s.0), omega (arith, s.1)))

-- a number has one digit at least
pub first_kept : (b : ℕ) (l : List ℕ) (at v a : ℕ) → 10 ≤ b → first_of b l at ≡ Some (v, a) → Kept b 1 at v a
unfolding first_of
first_kept b [] at v a p e = no_value e
first_kept b (x ∷ l) at v a p e =
    by_cases (ltb (digit_of x) 10)
    (λ h. by_cases (eqb (digit_of x) 0)
    (λ k. let s = same_number (rw (h, k) at e) in (omega (arith, s.0), omega (arith, s.1)))
    (λ k.
    let d : digit_of x < 10 = ltb-true _ 10 h in
    let z : Kept b 0 (at + 1) v a = digits_kept b l (digit_of x) (at + 1) v a (omega arith) (rw (h, k) at e) in (z.0, omega (arith, z.1))))
    (λ h. no_value (rw h at e))

followed_kept : (b : ℕ) (s : List ℕ) (x : ℕ) (n : Number) (at v a : ℕ) → ((w p : ℕ) → n ≡ Some (w, p) → Kept b 1 at w p) → followed_by s x n ≡ Some (v, a)
    → Kept b 2 at v a
unfolding followed_by
followed_kept b s x (Some (w, p)) at v a f e =
    by_cases (eqb (get_or s p 0) x)
    (λ k. let g = same_number (rw k at e) in let q = f w p refl in (omega (arith, g.0, q.0), omega (arith, g.1, q.1)))
    (λ k. no_value (rw k at e))
followed_kept b s x None at v a f e = no_value e

-- a number and the byte after it are two bytes or more
pub field_kept : (b : ℕ) (s : List ℕ) (x at v a : ℕ) → 10 ≤ b → field_at b s x at ≡ Some (v, a) → (v < b) × (at + 2 ≤ a)
unfolding field_at number_at
field_kept b s x at v a h e = followed_kept b s x (number_at b s at) at v a (λ w p q. first_kept b (drop at s) at w p h q) e

-- the byte after a number stands within the text, and so does what follows
pub field_ends : (b : ℕ) (s : List ℕ) (e at v a : ℕ) → 0 < e → field_at b s e at ≡ Some (v, a) → a ≤ length s
unfolding field_at followed_by
field_ends b s e at v a h = go (number_at b s at)
  where
    go : (n : Number) → followed_by s e n ≡ Some (v, a) → a ≤ length s
    go (Some (w, p)) f =
        by_cases (eqb (get_or s p 0) e)
        (λ k. let g = same_number (rw k at f) in omega (arith, g.1, inside s p e h (eqb-true (get_or s p 0) e k)))
        (λ k. no_value (rw k at f))
    go None f = no_value f

-- what is left of a text from a place on
pub rest_is : (s : List ℕ) (at : ℕ) → take (length s - at) (drop at s) ≡ drop at s
rest_is s at = ap (λ (k : ℕ). take k (drop at s)) (sym (length-drop at s)) ∙ take-length (drop at s)

-- two numbers on a line are four bytes or more
abbrev KeptPair : ℕ → ℕ → ℕ → ℕ → ℕ → Type 0
KeptPair b at x y a = (x < b) × (y < b) × (at + 4 ≤ a)

pub no_pair : {A : Type 0} {x y a : ℕ} → ◌≡◌ {A = Pair} None (Some (x, y, a)) → A
no_pair e = let z : ◌≡◌ {A = ℕ} 0 1 = cc in absurd (omega arith)

-- two that are equal have equal parts
pub same_pair : {x y at u v a : ℕ} → ◌≡◌ {A = Pair} (Some (x, y, at)) (Some (u, v, a)) → (x ≡ u) × (y ≡ v) × (at ≡ a)
same_pair e = (ap (λ (p : Pair). first p) e, ap (λ (p : Pair). second p) e, ap (λ (p : Pair). place p) e)
  where
    first : Pair → ℕ
    first (Some (x, y, at)) = x
    first None = 0

    second : Pair → ℕ
    second (Some (x, y, at)) = y
    second None = 0

    place : Pair → ℕ
    place (Some (x, y, at)) = at
    place None = 0

second_kept : (b u : ℕ) (n : Number) (at p x y a : ℕ) → Kept b 2 at u p → ((w q : ℕ) → n ≡ Some (w, q) → Kept b 2 p w q) → second_after u n ≡ Some (x, y, a)
    → KeptPair b at x y a
unfolding second_after
second_kept b u (Some (w, q)) at p x y a h f e =
    let i = same_pair e in let g = f w q refl in
    (omega (arith, i.0, h.0), omega (arith, i.1, g.0), omega (arith, i.2, h.1, g.1))
second_kept b u None at p x y a h f e = no_pair e

first_of_kept : (b : ℕ) (s : List ℕ) (n : Number) (at x y a : ℕ) → 10 ≤ b → ((w p : ℕ) → n ≡ Some (w, p) → Kept b 2 at w p) → first_after b s n
    ≡ Some (x, y, a) → KeptPair b at x y a
unfolding first_after
first_of_kept b s (Some (w, p)) at x y a h f e =
    second_kept b w (field_at b s newline p) at p x y a (f w p refl) (λ v q k. field_kept b s newline p v q h k) e
first_of_kept b s None at x y a h f e = no_pair e

pub pair_by_kept : (b e : ℕ) (s : List ℕ) (at x y a : ℕ) → 10 ≤ b → pair_by b e s at ≡ Some (x, y, a) → (x < b) × (y < b) × (at + 4 ≤ a)
pair_by_kept b e s at x y a h p = first_of_kept b s (field_at b s e at) at x y a h (λ w q r. field_kept b s e at w q h r) p

-- with a blank between too
pub pair_kept : (b : ℕ) (s : List ℕ) (at x y a : ℕ) → 10 ≤ b → pair_at b s at ≡ Some (x, y, a) → (x < b) × (y < b) × (at + 4 ≤ a)
unfolding pair_at
pair_kept b s at x y a h e = pair_by_kept b blank s at x y a h e

second_ends : (u : ℕ) (n : Number) (x y a k : ℕ) → ((w q : ℕ) → n ≡ Some (w, q) → q ≤ k) → second_after u n ≡ Some (x, y, a) → a ≤ k
unfolding second_after
second_ends u (Some (w, q)) x y a k f e = omega (arith, f w q refl, (same_pair e).2)
second_ends u None x y a k f e = no_pair e

-- a line that can be read stands within the text
pub pair_ends : (b e : ℕ) (s : List ℕ) (at x y a : ℕ) → pair_by b e s at ≡ Some (x, y, a) → a ≤ length s
unfolding first_after
pair_ends b e s at x y a = go (field_at b s e at)
  where
    go : (n : Number) → first_after b s n ≡ Some (x, y, a) → a ≤ length s
    go (Some (w, p)) h = second_ends w (field_at b s newline p) x y a (length s) (λ v q k. field_ends b s newline p v q (omega arith) k) h
    go None h = no_pair h

-- the place after two numbers on a line, if they can be read
unfoldable pub pair_place : Pair → Option ℕ
pair_place (Some (x, y, at)) = Some at
pair_place None = None

-- it lies ahead
pub pair_ahead : (b : ℕ) (s : List ℕ) (at after : ℕ) → 10 ≤ b → Some after ≡ pair_place (pair_at b s at) → at < after
unfolding pair_place
pair_ahead b s at after h e = go (pair_at b s at) refl e
  where
    go : (p : Pair) → pair_at b s at ≡ p → Some after ≡ pair_place p → at < after
    go (Some (x, y, a)) q r = let z : after ≡ a = cc in omega (arith, z, (pair_kept b s at x y a h q).2)
    go None q r = let z : ◌≡◌ {A = ℕ} 0 1 = cc in absurd (omega arith)
