-- What the program `office` writes, in document 02's words.
use Rattle.std.specs.declared.option.Option.TheVariants.{Some, None}
use Prim.Native.Nat.{ℕ, zero, suc, ◌+◌, ◌/◌, ◌≤◌, ◌<◌}
use mathlib.Core.Path.{◌≡◌, refl, ap, ◌∙◌}
use mathlib.Core.Bool.{Bool, true, false}
use mathlib.Core.Logic.{inl}
use mathlib.Core.List.{List, ◌∷◌, ◌++◌}
use native.Mathlib.Omega.{arith}
use borrow.Author.Tests.{lt-ltb, le-ltb, eqb-true, eqb-false}
use lib.Dec.{eqb}
use lib.ListN.{length, take, drop}
use Rattle.lists.proofs.Tests.{by_cases}
use Rattle.units.specs.Refusals.{refusal}
use Rattle.writing.specs.Ascii.{ascii, newline}
use Rattle.writing.specs.Decimal.{decimal_of}
use Rattle.writing.specs.Refused.{refusal_text}
use Rattle.scanning.specs.Line.{field_at}
use Rattle.line_place.specs.Place.{line_here, first_place, line_place}
use Rattle.scanning.proofs.WrittenLines.{field_written, field_read}
use Rattle.scanning.specs.Number.{Number}
use Rattle.table_text.specs.Text.{says, unreadable, text_of}
use Rattle.sheet_text.specs.Job.{nanos_bound}
use Rattle.office_answer.specs.Office.{names_place, written_text, after_tick, after_table, office_text}

-- no place before the first that passes a test does
before_none : (f : ℕ → Bool) (n at q : ℕ) → at ≤ q → q < first_place f n at → f q ≡ false
unfolding first_place
before_none f zero at q h = λ k. absurd (omega (arith, h, k))
before_none f (suc n) at q h =
    by_cases (f at)
    (λ e. rw e (λ k. absurd (omega (arith, h, k))))
    (λ e. rw e (λ k. by_cases (eqb at q) (λ z. rw (← eqb-true at q z) e) (λ z. before_none f n (at + 1) q (omega (arith, h, eqb-false at q z)) k)))

-- it does, where there is one
first_passes : (f : ℕ → Bool) (n at : ℕ) → first_place f n at < at + n → f (first_place f n at) ≡ true
unfolding first_place
first_passes f zero at = λ k. absurd (omega (arith, k))
first_passes f (suc n) at =
    by_cases (f at) (λ e. rw e (λ k. e)) (λ e. rw e (λ k. first_passes f n (at + 1) (omega (arith, k))))

module _ (s : List ℕ) where
  -- no line before the names' place starts with `names `
  pub names_first : (q : ℕ) → q < names_place s → line_here (ascii "names ") s q ≡ false
  unfolding line_place
  names_first q h = before_none (line_here (ascii "names ") s) (length s) 0 q (omega arith) h

  -- and the line there does, where there is one
  pub names_here_lem : names_place s < length s → line_here (ascii "names ") s (names_place s) ≡ true
  unfolding line_place
  names_here_lem h = first_passes (line_here (ascii "names ") s) (length s) 0 (omega (arith, h))

module _ (room : ℕ) (s : List ℕ) where
  -- 16 as by `plan` for what stands before that line
  pub office_unreadable : {line : ℕ} → text_of (take (names_place s) s) ≡ unreadable line → office_text room s ≡ refusal_text (refusal 16 line)
  unfolding office_text after_table
  office_unreadable e = rw e refl

  module _ {m : ℕ} {xs : List ℕ} (e : text_of (take (names_place s) s) ≡ says m xs) where
    -- where there is none, the line after the last is named
    pub office_none : length s ≤ names_place s → office_text room s ≡ refusal_text (refusal 16 (2 + length xs / 2))
    unfolding office_text after_table
    office_none h = rw (e, le-ltb (names_place s) (length s) h) refl

    module _ (h : names_place s < length s) where
      follows : office_text room s ≡ after_tick room m xs s (field_at nanos_bound s newline (names_place s + 6))
      unfolding office_text after_table
      follows = rw (e, lt-ltb (names_place s) (length s) h) refl

      -- 19 for what follows that word, where it is no number of 1 to 15 digits and a newline
      pub office_tick : ((tick : ℕ) (names : List ℕ) → tick < 1000000000000000 → drop (names_place s + 6) s ≡ decimal_of tick ++ newline ∷ names → ⊥)
          → office_text room s ≡ refusal_text (refusal 19 0)
      unfolding after_tick
      office_tick none = follows ∙ go (field_at nanos_bound s newline (names_place s + 6)) refl
        where
          go : (n : Number) → field_at nanos_bound s newline (names_place s + 6) ≡ n → after_tick room m xs s n ≡ refusal_text (refusal 19 0)
          go (Some (tick, a)) q =
              let r = field_read nanos_bound s newline (names_place s + 6) tick a (omega arith) (omega arith) q in
              absurd (none tick (drop a s) r.0 r.1)
          go None q = refl

      -- else the table is written with that tick length and the names after it
      pub office_writes : (tick : ℕ) (names : List ℕ) → tick < 1000000000000000 → drop (names_place s + 6) s ≡ decimal_of tick ++ newline ∷ names
          → office_text room s ≡ written_text room m xs names tick
      unfolding after_tick
      office_writes tick names k q =
          let r = field_written nanos_bound s newline (names_place s + 6) tick names k (inl (omega arith)) q in
          follows ∙ rw r.0 (ap (λ (l : List ℕ). written_text room m xs l tick) r.1)
