-- What is answered, and what then stands in the lent lists, as the code meets them.
use Rattle.std.specs.declared.result.Result.TheVariants.{Ok, Err}
use Rattle.std.specs.declared.option.Option.TheVariants.{Some, None}
use Prim.Native.Nat.{ℕ, ◌+◌, ◌/◌}
use mathlib.Core.Path.{◌≡◌, refl, sym, ap, ap₂, ◌∙◌}
use mathlib.Core.Bool.{Bool}
use mathlib.Core.List.{List}
use native.Mathlib.Omega.{arith}
use lib.ListN.{length, take}
use lib.Seq.{sets}
use Rattle.table_text.specs.Text.{Reading, read, Said, says, unreadable as no_table, text_of, table_said, answer_of}
use Rattle.table_text.specs.declared.TableRead.{TableRead}
use Rattle.table_text.proofs.Answered.{is_unreadable}
use Rattle.scanning.specs.Number.{Number}
use Rattle.day_text.specs.Line.{stop_line, stop_place}
use Rattle.day_text.specs.Input.{DayReading, day_read, arrivals_at, more_at, after_stop, after_table, table_in, day_of, arrivals_said, day_answer}
use Rattle.day_text.specs.Inner.{stop_answer, stop_arrivals}

-- by the stop's line
module _ (s l : List ℕ) (m n : ℕ) {w : Number} where
  -- there is none
  pub no_stop : w ≡ None → (Err (2 + n / 2) ≡ stop_answer s m n w) × (l ≡ sets l 0 (stop_arrivals s w))
  unfolding stop_answer stop_arrivals
  no_stop e = rw e (refl, refl)

  -- there is one
  pub stopped : {stop at numbers : ℕ} {more : Bool} {later : List ℕ} → w ≡ Some (stop, at)
      → (numbers ≡ length (arrivals_at s at)) × (more ≡ more_at s at) → later ≡ sets l 0 (arrivals_at s at)
      → (Ok (day_read m n stop numbers more) ≡ stop_answer s m n w) × (later ≡ sets l 0 (stop_arrivals s w))
  unfolding stop_answer stop_arrivals
  stopped {stop} e f g = rw e (ap₂ (λ (k : ℕ) (b : Bool). Ok (day_read m n stop k b)) f.0 f.1, g)

-- a text is read or not
no_reading : {A : Type 0} {m n line : ℕ} → ◌≡◌ {A = Reading} (Err line) (Ok (read m n)) → A
no_reading e = let z : ◌≡◌ {A = ℕ} 0 1 = cc in absurd (omega arith)

module _ (s : List ℕ) (m : ℕ) (xs : List ℕ) where
  stop_answers : (w : Number) → stop_answer s m (length xs) w ≡ day_answer (after_stop s m xs w)
  unfolding stop_answer day_answer after_stop
  stop_answers (Some (stop, at)) = refl
  stop_answers None = refl

  stop_arrives : (w : Number) → stop_arrivals s w ≡ arrivals_said (after_stop s m xs w)
  unfolding stop_arrivals arrivals_said after_stop
  stop_arrives (Some (stop, at)) = refl
  stop_arrives None = refl

-- by what the table's text says
module _ (s : List ℕ) (p : ℕ) where
  table_answers : (w : Said) {m n : ℕ} → answer_of w ≡ Ok (read m n) → stop_answer s m n (stop_line s p) ≡ day_answer (after_table s p w)
  unfolding answer_of after_table
  table_answers (says k xs) {m} {n} e =
      let f : read m n ≡ read k (length xs) = cc in
      ap (λ (t : TableRead). stop_answer s t.cores t.count (stop_line s p)) f ∙ stop_answers s k xs (stop_line s p)
  table_answers (no_table line) e = no_reading e

  table_arrives : (w : Said) {m n : ℕ} → answer_of w ≡ Ok (read m n) → stop_arrivals s (stop_line s p) ≡ arrivals_said (after_table s p w)
  unfolding answer_of after_table
  table_arrives (says k xs) e = stop_arrives s k xs (stop_line s p)
  table_arrives (no_table line) e = no_reading e

-- the whole input: the place of the stop's line, and what was read before it
module _ (s table l : List ℕ) {p : ℕ} {r : Reading} {then : List ℕ} (e : p ≡ stop_place s) (f : r ≡ answer_of (text_of (take p s)))
    (g : then ≡ sets table 0 (table_said (text_of (take p s)))) where
  text_is : text_of (take p s) ≡ table_in s
  text_is = ap (λ (k : ℕ). text_of (take k s)) e

  table_is : then ≡ sets table 0 (table_said (table_in s))
  table_is = g ∙ ap (λ (w : Said). sets table 0 (table_said w)) text_is

  -- it cannot be read
  pub unread : {line : ℕ} → r ≡ Err line
      → (Err line ≡ day_answer (day_of s)) × ((then ≡ sets table 0 (table_said (table_in s))) × (l ≡ sets l 0 (arrivals_said (day_of s))))
  unfolding day_of day_answer after_table arrivals_said
  unread q =
      let t = sym text_is ∙ is_unreadable (take p s) f q in
      (rw t refl, (table_is, rw t refl))

  -- the rest decides
  pub reads : {m n : ℕ} {a : DayReading} {later : List ℕ} → r ≡ Ok (read m n) → a ≡ stop_answer s m n (stop_line s p)
      → later ≡ sets l 0 (stop_arrivals s (stop_line s p))
      → (a ≡ day_answer (day_of s)) × ((then ≡ sets table 0 (table_said (table_in s))) × (later ≡ sets l 0 (arrivals_said (day_of s))))
  unfolding day_of
  reads {m} {n} q b c =
      let t : answer_of (table_in s) ≡ Ok (read m n) = sym (f ∙ ap answer_of text_is) ∙ q in (
        b ∙ ap (λ (k : ℕ). stop_answer s m n (stop_line s k)) e ∙ table_answers s (stop_place s) (table_in s) t,
        (
          table_is,
          c ∙ ap (sets l 0) (ap (λ (k : ℕ). stop_arrivals s (stop_line s k)) e ∙ table_arrives s (stop_place s) (table_in s) t),
        ),
      )
