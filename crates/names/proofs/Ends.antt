-- The place after a name, as the code meets it.
use Rattle.std.specs.declared.option.Option.TheVariants.{Some, None}
use Rattle.std.specs.List.{slice_range, prefix_len}
use Rattle.std.specs.Char.{is_ascii_lowercase}
use Prim.Native.Nat.{ℕ, ◌+◌, ◌≤◌, ◌<◌}
use mathlib.Core.Path.{◌≡◌, refl, sym, ap, ◌∙◌}
use mathlib.Core.List.{List, [], ◌∷◌}
use mathlib.Core.Logic.{◌⊎◌, inl, inr}
use native.Mathlib.Omega.{arith}
use borrow.Author.Tests.{lt-ltb, le-leb, lt-leb, eq-eqb, ne_eqb}
use lib.ListN.{length, get_or, drop, drop_of_length-le, get_or-eq_default}
use lib.Seq.{get_or-drop}
use Rattle.lists.proofs.Tests.{by_cases}
use Rattle.scanning.specs.Lines.{unless_zero}
use Rattle.scanning.proofs.Fields.{rest_is}
use Rattle.scanning.proofs.Sought.{zero_told, other_told}
use Rattle.names.specs.Name.{letters_limit, letter, letters, name_at, name_by, name_end}

-- letters are counted as the library counts
letters_taken : (l : List ℕ) → prefix_len is_ascii_lowercase l ≡ length (letters l)
unfolding letters
letters_taken [] = refl
letters_taken (b ∷ l) = by_cases (letter b) (λ e. rw e (omega (arith, letters_taken l))) (λ e. rw e refl)

-- k is how many letters stand at the place
module _ (s : List ℕ) (e at k : ℕ) (h : k ≡ length (name_at s at)) where
  -- a name has a letter
  end_empty : k ≡ 0 → name_end s e at ≡ 0
  unfolding name_end name_by
  end_empty p = rw (← h, p) refl

  -- and at most twelve
  end_long : (k ≡ 0 → ⊥) → letters_limit < k → name_end s e at ≡ 0
  unfolding name_end name_by
  end_long some p = rw (← h, lt-ltb 0 k (omega (arith, some)), lt-leb k letters_limit p) refl

  module _ (some : k ≡ 0 → ⊥) (few : k ≤ letters_limit) where
    -- another byte stands after the letters
    end_other : (get_or s (at + k) 0 ≡ e → ⊥) → name_end s e at ≡ 0
    unfolding name_end name_by
    end_other p = rw (← h, lt-ltb 0 k (omega (arith, some)), le-leb k letters_limit few, ne_eqb _ e p) refl

    -- the byte that has to
    pub end_is : get_or s (at + k) 0 ≡ e → name_end s e at ≡ at + k + 1
    unfolding name_end name_by
    end_is p = rw (← h, lt-ltb 0 k (omega (arith, some)), le-leb k letters_limit few, eq-eqb _ e p) refl

-- past the end of the text stands none
pub none_past : (s : List ℕ) (e at : ℕ) → length s ≤ at → None ≡ unless_zero (name_end s e at)
unfolding name_at letters
none_past s e at p = sym (zero_told (end_empty s e at 0 (rw (drop_of_length-le s p)) refl))

-- the text from the place on, with k small letters first
module _ (s : List ℕ) (e at : ℕ) {rest : List ℕ} {k : ℕ} (r : rest ≡ slice_range s at (length s)) (q : k ≡ prefix_len is_ascii_lowercase rest) where
  there : rest ≡ drop at s
  there = r ∙ rest_is s at

  counted : k ≡ length (name_at s at)
  unfolding name_at
  counted = q ∙ letters_taken rest ∙ ap (λ (l : List ℕ). length (letters l)) there

  after : get_or rest k 0 ≡ get_or s (at + k) 0
  after = ap (λ (l : List ℕ). get_or l k 0) there ∙ get_or-drop at s k 0

  -- too few or too many
  pub none_long : (k ≡ 0) ⊎ (k ≡ 0 → ⊥) × (letters_limit < k) → None ≡ unless_zero (name_end s e at)
  none_long (inl p) = sym (zero_told (end_empty s e at k counted p))
  none_long (inr p) = sym (zero_told (end_long s e at k counted p.0 p.1))

  module _ (some : k ≡ 0 → ⊥) (few : k ≤ letters_limit) where
    -- another byte after them
    pub none_other : (get_or rest k 0 ≡ e → ⊥) → None ≡ unless_zero (name_end s e at)
    none_other p = sym (zero_told (end_other s e at k counted some few (λ z. p (after ∙ z))))

    -- none
    pub none_end : 0 < e → length rest ≤ k → None ≡ unless_zero (name_end s e at)
    none_end p h = none_other (λ z. omega (arith, z, p, get_or-eq_default rest 0 h))

    -- the byte that has to
    pub some_is : get_or rest k 0 ≡ e → Some (at + k + 1) ≡ unless_zero (name_end s e at)
    some_is p = let z = end_is s e at k counted some few (sym after ∙ p) in sym (other_told (λ n. omega (arith, n, z)) ∙ ap Some z)
