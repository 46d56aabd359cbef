-- Storing the numbers of the arrivals' lines, of n lines at most.
use Rattle.std.specs.declared.option.Option.TheVariants.{Some, None}
use Prim.Native.Nat.{ℕ, suc, ◌+◌, ◌-◌, ◌*◌, ◌≤◌, ◌<◌}
use mathlib.Core.Path.{◌≡◌, refl, sym, ap, ◌∙◌}
use mathlib.Core.List.{List, [], ◌∷◌}
use native.Mathlib.Nat.{sub-zero}
use native.Mathlib.Omega.{arith}
use lib.Dec.{ltb}
use lib.ListN.{length, set, length-set}
use lib.Seq.{sets}
use Rattle.day_text.specs.Line.{arrival_line}
use Rattle.day_text.specs.Input.{arrivals_from, place_after}
use Rattle.day_text.proofs.Lines.{arrivals_none, place_none, arrivals_later, place_later}

-- three stores are those of an arrival
pub three : (l : List ℕ) {l₁ l₂ l₃ : List ℕ} (i t k n : ℕ) → l₁ ≡ set l (3 * i) t → l₂ ≡ set l₁ (3 * i + 1) k → l₃ ≡ set l₂ (3 * i + 2) n
    → l₃ ≡ sets l (3 * i) (t ∷ k ∷ n ∷ [])
three l i t k n a b c =
    let e : 3 * i + 1 ≡ suc (3 * i) = omega arith in
    let f : 3 * i + 2 ≡ suc (suc (3 * i)) = omega arith in
    c ∙ rw (b, a, e, f) refl

-- three stores, and then the later numbers
stored_three : (l : List ℕ) (i t k n : ℕ) (r : List ℕ) → sets l (3 * i) (t ∷ k ∷ n ∷ r) ≡ sets (sets l (3 * i) (t ∷ k ∷ n ∷ [])) (3 * (i + 1)) r
stored_three l i t k n r =
    let f : suc (suc (suc (3 * i))) ≡ 3 * (i + 1) = omega arith in
    ap (λ (p : ℕ). sets (sets l (3 * i) (t ∷ k ∷ n ∷ [])) p r) f

-- three stores keep a list's length
three_long : (l : List ℕ) (i t k n : ℕ) → length (sets l (3 * i) (t ∷ k ∷ n ∷ [])) ≡ length l
three_long l i t k n = simp length-set refl

-- while numbers are stored: those of i arrivals stand in the list, and those that are left make up the whole
pub record Kept (n : ℕ) (s : List ℕ) (from : ℕ) (before now : List ℕ) (i at : ℕ) : Type 0 where
  pub long : length now ≡ length before
  pub count : length (arrivals_from n s from) ≡ 3 * i + length (arrivals_from (n - i) s at)
  pub place : place_after n s from ≡ place_after (n - i) s at
  pub list : sets before 0 (arrivals_from n s from) ≡ sets now (3 * i) (arrivals_from (n - i) s at)

-- at first none stands
pub start : (n : ℕ) (s : List ℕ) (from : ℕ) (l : List ℕ) → Kept n s from l l 0 from
start n s from l = record { long = refl; count = rw sub-zero (omega arith); place = rw sub-zero refl; list = rw sub-zero refl }

-- what is answered, with no more numbers: all stand
abbrev Whole : ℕ → List ℕ → ℕ → List ℕ → List ℕ → ℕ → ℕ → Type 0
Whole n s from before now i at =
    ((3 * i ≡ length (arrivals_from n s from)) × (ltb at (length s) ≡ ltb (place_after n s from) (length s))) × (now ≡ sets before 0 (arrivals_from n s from))

module _ (n : ℕ) (s : List ℕ) (from : ℕ) (before : List ℕ) {now : List ℕ} (i at : ℕ) (h : Kept n s from before now i at) where
  -- the numbers of one more arrival
  pub more : {later : List ℕ} (t k m : ℕ) {next : ℕ} → i < n → arrival_line s at ≡ Some (t, k, m, next) → later ≡ sets now (3 * i) (t ∷ k ∷ m ∷ [])
      → Kept n s from before later (i + 1) next
  more {later} t k m {next} l p a =
      let e : n - i ≡ suc (n - (i + 1)) = omega arith in
      let q = arrivals_later s at _ _ e p in
      record {
        long = ap length a ∙ three_long now i t k m ∙ h.long;
        count = omega (arith, h.count, ap length q);
        place = h.place ∙ place_later s at _ _ e p;
        list = h.list ∙ rw (q, a) (stored_three now i t k m (arrivals_from (n - (i + 1)) s next));
      }

  whole : arrivals_from (n - i) s at ≡ [] → place_after (n - i) s at ≡ at → Whole n s from before now i at
  whole e f = ((omega (arith, h.count, ap length e), ap (λ (p : ℕ). ltb p (length s)) (sym (h.place ∙ f))), sym (h.list ∙ rw e refl))

  -- a line cannot be read
  pub ended : arrival_line s at ≡ None → Whole n s from before now i at
  ended p = whole (arrivals_none s at (n - i) p) (place_none s at (n - i) p)

  -- n lines were read
  pub full : n ≤ i → i ≤ n → Whole n s from before now n at
  unfolding arrivals_from place_after
  full l m =
      let z : n - i ≡ 0 = omega arith in
      let e : i ≡ n = omega arith in
      rw e at (whole (rw z refl) (rw z refl))
