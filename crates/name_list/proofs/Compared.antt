-- A name is compared with those of the lines from a place on, as the code meets it: a line, with its newline, as a word.
use Rattle.std.specs.declared.option.Option.TheVariants.{Some, None}
use Rattle.std.specs.Option.{is_some}
use Prim.Native.Nat.{ℕ, suc, ◌-◌}
use mathlib.Core.Path.{◌≡◌, refl, sym, ap, ap₂, ◌∙◌}
use mathlib.Core.Logic.{inl}
use mathlib.Core.Bool.{Bool, true, false, ◌&&◌}
use mathlib.Core.List.{List, [], ◌∷◌, ◌++◌, append_assoc}
use native.Mathlib.Omega.{arith}
use borrow.Author.Tests.{eq-eqb, ne_eqb, eqb-true, eqb-false}
use lib.Dec.{eqb}
use lib.ListN.{length, take, drop, length-append}
use lib.Seq.{take_at}
use Rattle.lists.proofs.Tests.{by_cases}
use Rattle.writing.specs.Ascii.{newline}
use Rattle.scanning.specs.Lines.{unless_zero}
use Rattle.scanning.specs.Word.{Word, starts, word_at}
use Rattle.scanning.proofs.Sought.{told}
use Rattle.names.specs.Name.{letters, name_at, name_end}
use Rattle.names.proofs.Written.{Small, letters_written, letters_small, name_read}
use Rattle.name_list.specs.Names.{same, among, twice, names_of}
use Rattle.name_list.proofs.Lines.{names_here, names_none, names_later}

-- which of two numbers is named first does not matter
turned : (a b : ℕ) → eqb a b ≡ eqb b a
turned a b = by_cases (eqb b a) (λ e. rw e (eq-eqb a b (sym (eqb-true b a e)))) (λ e. rw e (ne_eqb a b (λ p. eqb-false b a e (sym p))))

-- two names are the same if the first with a newline stands where the second with a newline does
same_line : (n m rest : List ℕ) → Small n → Small m → same n m ≡ starts (n ++ newline ∷ []) (m ++ newline ∷ rest)
same_line [] [] rest h k = refl
same_line [] (b ∷ m) rest h k = rw (ne_eqb b newline (λ e. omega (arith, e, (k 0 (omega arith)).0))) refl
same_line (a ∷ n) [] rest h k = rw (ne_eqb newline a (λ e. omega (arith, e, (h 0 (omega arith)).0))) refl
same_line (a ∷ n) (b ∷ m) rest h k =
    rw (turned a b) (ap (λ (z : Bool). eqb b a && z) (same_line n m rest (λ i p. h (suc i) (omega arith)) (λ i p. k (suc i) (omega arith))))

-- whether a word stands at a place
found : (line s : List ℕ) (at : ℕ) {word : Word} {b : Bool} → word ≡ word_at line s at → b ≡ is_some word → starts line (drop at s) ≡ b
unfolding word_at
found line s at w e = by_cases (starts line (drop at s)) (λ k. k ∙ sym (rw (w, k) at e)) (λ k. k ∙ sym (rw (w, k) at e))

-- a line that is a name
module _ (s : List ℕ) (at : ℕ) {next : ℕ} (p : Some next ≡ unless_zero (name_end s newline at)) where
  -- the part of the text from the one place to the other is the name with its newline
  line_is : take (next - at) (drop at s) ≡ name_at s at ++ newline ∷ []
  line_is =
      let n = name_at s at in
      let r = name_read s newline at (omega arith) (told p).1 in
      let k : length (n ++ newline ∷ []) ≡ next - at = omega (arith, (told p).0, r.1, length-append n (newline ∷ [])) in
      ap (take (next - at)) (r.3 ∙ sym (append_assoc n (newline ∷ []) (drop (name_end s newline at) s)))
      ∙ take_at (n ++ newline ∷ []) (drop (name_end s newline at) s) (next - at) k

  -- and its letters are the name
  line_name : letters (take (next - at) (drop at s)) ≡ name_at s at
  unfolding name_at
  line_name = ap letters line_is ∙ letters_written (name_at s at) newline [] (letters_small (drop at s)) (inl (omega arith))

  -- so it is a line
  pub line_whole : take (next - at) (drop at s) ≡ letters (take (next - at) (drop at s)) ++ newline ∷ []
  line_whole = line_is ∙ ap (λ (n : List ℕ). n ++ newline ∷ []) (sym line_name)

-- while a line's name is looked for among those from a place on: from a later place on it is the same
pub record Again (s line : List ℕ) (from at : ℕ) : Type 0 where
  pub same : among (letters line) (names_here s from) ≡ among (letters line) (names_here s at)

-- at first it is the first place
pub again_first : (s line : List ℕ) (from : ℕ) → Again s line from from
again_first s line from = record { same = refl }

module _ (s line : List ℕ) (from at : ℕ) (h : Again s line from at) where
  -- no more is read
  pub again_done : None ≡ unless_zero (name_end s newline at) → false ≡ among (letters line) (names_here s from)
  again_done p = sym (h.same ∙ ap (among (letters line)) (names_none s at p))

  module _ {next : ℕ} (p : Some next ≡ unless_zero (name_end s newline at)) (whole : line ≡ letters line ++ newline ∷ []) where
    -- the two lines are compared as words
    compared : same (letters line) (name_at s at) ≡ starts line (drop at s)
    compared =
        let r = name_read s newline at (omega arith) (told p).1 in
        same_line (letters line) (name_at s at) (drop (name_end s newline at) s) (letters_small line) r.0.small
        ∙ ap₂ starts (sym whole) (sym r.3)

    module _ {word : Word} (w : word ≡ word_at line s at) where
      -- it is the name
      pub again_here : true ≡ is_some word → true ≡ among (letters line) (names_here s from)
      again_here e = sym (h.same ∙ ap (among (letters line)) (names_later s at p) ∙ rw (compared, found line s at w e) refl)

      -- it is another
      pub again_later : false ≡ is_some word → Again s line from next
      again_later e = record { same = h.same ∙ ap (among (letters line)) (names_later s at p) ∙ rw (compared, found line s at w e) refl }

-- while a name that stands twice is looked for: from a place on it is the same
pub record Twice (s : List ℕ) (at : ℕ) : Type 0 where
  pub same : twice (names_of s) ≡ twice (names_here s at)

-- at first it is the first line
pub twice_first : (s : List ℕ) → Twice s 0
twice_first s = record { same = refl }

module _ (s : List ℕ) (at : ℕ) (h : Twice s at) where
  -- no more is read
  pub twice_done : None ≡ unless_zero (name_end s newline at) → false ≡ twice (names_of s)
  twice_done p = sym (h.same ∙ ap twice (names_none s at p))

  module _ {next : ℕ} (p : Some next ≡ unless_zero (name_end s newline at)) where
    -- the name stands there again
    pub twice_here : among (letters (take (next - at) (drop at s))) (names_here s next) ≡ true → true ≡ twice (names_of s)
    twice_here e = sym (h.same ∙ ap twice (names_later s at p) ∙ rw (rw (line_name s at p) at e) refl)

    -- it does not
    pub twice_later : among (letters (take (next - at) (drop at s))) (names_here s next) ≡ false → Twice s next
    twice_later e = record { same = h.same ∙ ap twice (names_later s at p) ∙ rw (rw (line_name s at p) at e) refl }
