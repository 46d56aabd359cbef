-- A number and the byte after it, and two numbers on a line: what is written is read, and only that.
use Rattle.std.specs.declared.option.Option.TheVariants.{Some, None}
use Prim.Native.Nat.{ℕ, suc, ◌+◌, ◌≤◌, ◌<◌}
use mathlib.Core.Path.{◌≡◌, refl, sym, ap, ap₂, ◌∙◌}
use mathlib.Core.Logic.{inl}
use mathlib.Core.List.{List, ◌∷◌, ◌++◌}
use native.Mathlib.Omega.{arith}
use borrow.Author.Tests.{eqb-true}
use lib.Dec.{eqb}
use lib.ListN.{length, get_or, drop}
use lib.Seq.{drop-cons, drop-drop, drop-append-add, get_or-drop, get_or-append_seam}
use Rattle.lists.proofs.Tests.{by_cases}
use Rattle.writing.specs.Ascii.{blank, newline}
use Rattle.writing.specs.Decimal.{decimal_of}
use Rattle.scanning.specs.Number.{number_at}
use Rattle.scanning.specs.Line.{followed_by, field_at, second_after, first_after, pair_by, pair_at}
use Rattle.scanning.proofs.Fields.{same_number, same_pair, inside, field_is, no_value, no_pair}
use Rattle.scanning.proofs.Written.{NoDigit, number_written, number_read}
use Rattle.scanning.specs.Number.{Number}

-- a number that is written at a place with a byte after it
pub field_written : (b : ℕ) (s : List ℕ) (e at n : ℕ) (rest : List ℕ) → n < b → NoDigit e → drop at s ≡ decimal_of n ++ e ∷ rest
    → (field_at b s e at ≡ Some (n, at + length (decimal_of n) + 1)) × (drop (at + length (decimal_of n) + 1) s ≡ rest)
field_written b s e at n rest h stop p =
    let k = length (decimal_of n) in
    let here : get_or s (at + k) 0 ≡ e = sym (get_or-drop at s k 0) ∙ ap (λ (l : List ℕ). get_or l k 0) p ∙ get_or-append_seam (decimal_of n) e rest 0 in
    let f : at + k + 1 ≡ at + (k + 1) = omega arith in (
      field_is b s e at (number_written b s at n (e ∷ rest) h stop p) here,
      ap (λ (j : ℕ). drop j s) f ∙ sym (drop-drop (k + 1) at s) ∙ ap (drop (k + 1)) p ∙ drop-append-add (decimal_of n) (e ∷ rest) 1,
    )

-- one that was read is written there
pub field_read : (b : ℕ) (s : List ℕ) (e at v a : ℕ) → 10 ≤ b → 0 < e → field_at b s e at ≡ Some (v, a) → (v < b) × (drop at s ≡ decimal_of v ++ e ∷ drop a s)
unfolding field_at followed_by
field_read b s e at v a h p = go (number_at b s at) refl
  where
    go : (n : Number) → number_at b s at ≡ n → followed_by s e n ≡ Some (v, a) → (v < b) × (drop at s ≡ decimal_of v ++ e ∷ drop a s)
    go (Some (w, q)) r f =
        by_cases (eqb (get_or s q 0) e)
        (λ k.
        let g = same_number (rw k at f) in let z : suc q ≡ a = omega (arith, g.1) in
        let i = eqb-true (get_or s q 0) e k in
        let m = number_read b s at w q h r in (
          omega (arith, g.0, m.0),
          m.1 ∙ ap₂ (λ (u : ℕ) (l : List ℕ). decimal_of u ++ l) g.0
              (drop-cons s q 0 (inside s q e p i) ∙ ap₂ (λ (c k : ℕ). c ∷ drop k s) i z),
        ))
        (λ k. no_value (rw k at f))
    go None r f = no_value f

-- two numbers that are written at a place with a byte between, which is no digit, and a newline after
pub pair_by_written : (b e : ℕ) (s : List ℕ) (at x y : ℕ) (rest : List ℕ) → NoDigit e → x < b → y < b
    → drop at s ≡ decimal_of x ++ e ∷ (decimal_of y ++ newline ∷ rest) → (a : ℕ) × (pair_by b e s at ≡ Some (x, y, a)) × (drop a s ≡ rest)
unfolding first_after second_after
pair_by_written b e s at x y rest stop h k p =
    let f = field_written b s e at x (decimal_of y ++ newline ∷ rest) h stop p in
    let g = field_written b s newline (at + length (decimal_of x) + 1) y rest k (inl (omega arith)) f.1 in
    (at + length (decimal_of x) + 1 + length (decimal_of y) + 1, rw (f.0, g.0), g.1)

-- two that were read are written there
pub pair_by_read : (b e : ℕ) (s : List ℕ) (at x y a : ℕ) → 10 ≤ b → 0 < e → pair_by b e s at ≡ Some (x, y, a)
    → drop at s ≡ decimal_of x ++ e ∷ (decimal_of y ++ newline ∷ drop a s)
unfolding first_after second_after
pair_by_read b e s at x y a h pos = go (field_at b s e at) refl
  where
    second : (u p : ℕ) (n : Number) → field_at b s newline p ≡ n → second_after u n ≡ Some (x, y, a) → (u ≡ x) × (drop p s ≡ decimal_of y ++ newline ∷ drop a s)
    second u p (Some (w, q)) r f =
        let i = same_pair f in
        (i.0, (field_read b s newline p w q h (omega arith) r).1 ∙ ap₂ (λ (v k : ℕ). decimal_of v ++ newline ∷ drop k s) i.1 i.2)
    second u p None r f = no_pair f

    go : (n : Number) → field_at b s e at ≡ n → first_after b s n ≡ Some (x, y, a) → drop at s ≡ decimal_of x ++ e ∷ (decimal_of y ++ newline ∷ drop a s)
    go (Some (u, p)) r f =
        let z = second u p (field_at b s newline p) refl f in
        (field_read b s e at u p h pos r).1 ∙ ap₂ (λ (v : ℕ) (l : List ℕ). decimal_of v ++ e ∷ l) z.0 z.1
    go None r f = no_pair f

-- two with a blank between and a newline after
pub pair_written : (b : ℕ) (s : List ℕ) (at x y : ℕ) (rest : List ℕ) → x < b → y < b → drop at s ≡ decimal_of x ++ blank ∷ (decimal_of y ++ newline ∷ rest)
    → (a : ℕ) × (pair_at b s at ≡ Some (x, y, a)) × (drop a s ≡ rest)
unfolding pair_at
pair_written b s at x y rest h k p = pair_by_written b blank s at x y rest (inl (omega arith)) h k p

-- two that were read so are written there
pub pair_read : (b : ℕ) (s : List ℕ) (at x y a : ℕ) → 10 ≤ b → pair_at b s at ≡ Some (x, y, a)
    → drop at s ≡ decimal_of x ++ blank ∷ (decimal_of y ++ newline ∷ drop a s)
unfolding pair_at
pair_read b s at x y a h e = pair_by_read b blank s at x y a h (omega arith) e
