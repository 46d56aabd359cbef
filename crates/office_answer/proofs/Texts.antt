-- The equations of what the program `office` writes, as the code meets them.
use Rattle.std.specs.declared.option.Option.TheVariants.{Some, None}
use Prim.Native.Nat.{ℕ, ◌+◌, ◌-◌, ◌/◌, ◌≤◌, ◌<◌}
use mathlib.Core.Path.{◌≡◌, refl, ap, ◌∙◌, subst}
use mathlib.Core.Bool.{false}
use mathlib.Core.List.{List}
use native.Mathlib.Omega.{arith}
use borrow.Author.Tests.{lt-ltb, le-ltb, ne_eqb, eqb-true, eqb-false, leb-true}
use lib.Dec.{leb, eqb}
use lib.ListN.{length, take, drop}
use Rattle.lists.proofs.Tests.{by_cases}
use Rattle.units.specs.Refusals.{Refusal}
use Rattle.units.specs.Refusals.{refusal, text_no, tick_no}
use Rattle.writing.specs.Ascii.{newline}
use Rattle.writing.specs.Wrote.{Wrote}
use Rattle.writing.specs.Refused.{refusal_text}
use Rattle.writing.proofs.Wrote.{fitted as text_fitted, recast}
use Rattle.scanning.specs.Line.{field_at}
use Rattle.scanning.proofs.Fields.{rest_is}
use Rattle.table_text.specs.Text.{Said, says, unreadable, text_of}
use Rattle.tick_length.specs.Ticks.{tick_in}
use Rattle.sheet_text.specs.Job.{nanos_bound}
use Rattle.sheet_writing.specs.Write.{Written}
use Rattle.sheet_writing.specs.Write.{write_refusal, sheet_for, fitted, fitted_after, written_of, written_after}
use Rattle.sheet_writing.proofs.Refused.{wrong_tick}
use Rattle.sheet_writing.proofs.Length.{sheet_short}
use Rattle.office_answer.specs.Office.{names_place, written_text, after_tick, after_word, after_table, office_text}

-- a refusal's line is the answer, where it is the refusal that is due
pub due : {a b xs : List ℕ} {k : ℕ} {q r : Refusal} → refusal_text q ≡ xs → Wrote a 0 (refusal_text r) b k → r ≡ q → Wrote a 0 xs b k
due e w f = recast (ap refusal_text f ∙ e) w

module _ (m : ℕ) (xs names : List ℕ) (tick : ℕ) (a : List ℕ) where
  -- what writing answers for a buffer
  abbrev W : Written
  W = written_of m xs names tick (length a)

  -- a refused table has changed no byte
  refused_kept : (W.refusal.no ≡ 0 → ⊥) → written_after m xs names tick a ≡ a
  unfolding written_of written_after fitted fitted_after
  refused_kept n =
      by_cases (eqb (write_refusal m xs names tick).no 0)
      (λ e. by_cases (leb (length (sheet_for xs names tick)) (length a))
      (λ h. absurd (rw (e, h) at n refl))
      (λ h. rw (e, h)))
      (λ e. rw e)

  -- and its refusal is the answer
  refused : (W.refusal.no ≡ 0 → ⊥) → refusal_text W.refusal ≡ written_text (length a) m xs names tick
  unfolding written_text
  refused n = rw (ne_eqb W.refusal.no 0 n)

  -- a taken one is written
  taken : W.refusal.no ≡ 0 → Wrote a 0 (written_text (length a) m xs names tick) (written_after m xs names tick a) W.length
  unfolding written_text written_of written_after fitted fitted_after
  taken t =
      by_cases (eqb (write_refusal m xs names tick).no 0)
      (λ e. by_cases (leb (length (sheet_for xs names tick)) (length a))
      (λ h. rw (e, h) (text_fitted (leb-true (length (sheet_for xs names tick)) (length a) h)))
      (λ h. absurd (omega (arith, rw (e, h) at t))))
      (λ e. absurd (eqb-false (write_refusal m xs names tick).no 0 e (rw e at t)))

  -- a sheet is short, and none has no byte
  short : W.length ≤ 4096
  unfolding written_of fitted
  short =
      by_cases (eqb (write_refusal m xs names tick).no 0)
      (λ e. by_cases (leb (length (sheet_for xs names tick)) (length a))
      (λ h. rw (e, h) (sheet_short m xs names tick (eqb-true (write_refusal m xs names tick).no 0 e)))
      (λ h. rw (e, h) (omega arith)))
      (λ e. rw e (omega arith))

  -- the same, by what writing answered and left in the buffer
  module _ {w : Written} {b : List ℕ} (e : w ≡ written_of m xs names tick (length a)) (f : b ≡ written_after m xs names tick a) where
    -- the refusal's line is written over the buffer as it was
    pub refused_wrote : {d : List ℕ} {k : ℕ} → (w.refusal.no ≡ 0 → ⊥) → Wrote b 0 (refusal_text w.refusal) d k
        → Wrote a 0 (written_text (length a) m xs names tick) d k
    refused_wrote {d} {k} n v =
        let z : W.refusal.no ≡ 0 → ⊥ = subst (λ (x : Written). x.refusal.no ≡ 0 → ⊥) e n in
        recast (ap (λ (x : Written). refusal_text x.refusal) e ∙ refused z)
        (subst (λ (c : List ℕ). Wrote c 0 (refusal_text w.refusal) d k) (f ∙ refused_kept z) v)

    -- the sheet is there
    pub taken_wrote : w.refusal.no ≡ 0 → Wrote a 0 (written_text (length a) m xs names tick) b w.length
    taken_wrote t = rw (e, f) (taken (rw e at t))

    -- and is short
    pub taken_short : w.length ≤ 4096
    taken_short = rw e short

module _ (room m : ℕ) (xs s : List ℕ) (at : ℕ) where
  -- the tick length can't be read
  pub no_tick : field_at nanos_bound s newline at ≡ None → refusal_text (refusal tick_no 0) ≡ after_word room m xs s at
  unfolding after_tick
  no_tick e = rw e refl

  module _ {tick a : ℕ} (e : field_at nanos_bound s newline at ≡ Some (tick, a)) where
    -- it is out of range
    pub tick_out : tick_in tick ≡ false → refusal_text (refusal tick_no 0) ≡ after_word room m xs s at
    unfolding after_tick written_text written_of
    tick_out t = rw (e, ← wrong_tick m xs (drop a s) tick t) refl

    -- the names follow
    pub tick_read : written_text room m xs (take (length s - a) (drop a s)) tick ≡ after_word room m xs s at
    unfolding after_tick
    tick_read = ap (λ (l : List ℕ). written_text room m xs l tick) (rest_is s a) ∙ rw e refl

module _ (room : ℕ) (s : List ℕ) {p : ℕ} (e : p ≡ names_place s) where
  -- an input is its table and what follows
  given : {w : Said} → text_of (take p s) ≡ w → after_table room s p w ≡ office_text room s
  unfolding office_text
  given f = rw (← e, f) refl

  -- an unreadable table
  pub table_bad : {line : ℕ} → text_of (take p s) ≡ unreadable line → refusal_text (refusal text_no line) ≡ office_text room s
  unfolding after_table
  table_bad f = given f

  module _ {m : ℕ} {xs : List ℕ} (f : text_of (take p s) ≡ says m xs) where
    -- no line `names `
    pub no_names : {n : ℕ} → n ≡ length xs → length s ≤ p → refusal_text (refusal text_no (2 + n / 2)) ≡ office_text room s
    unfolding after_table
    no_names k h = rw k (rw (le-ltb p (length s) h) at (given f))

    -- one, and what follows it
    pub names_follow : p < length s → after_word room m xs s (p + 6) ≡ office_text room s
    unfolding after_table
    names_follow h = rw (lt-ltb p (length s) h) at (given f)
