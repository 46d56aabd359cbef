-- What an answer says of the sheet, for whoever calls the reader.
use Rattle.std.specs.declared.result.Result.TheVariants.{Ok, Err}
use Prim.Native.Nat.{ℕ, ◌≤◌}
use mathlib.Core.Path.{◌≡◌, refl, sym, ap, ap₂, ◌∙◌}
use mathlib.Core.List.{List, map}
use native.Mathlib.Omega.{arith}
use lib.ListN.{length, take}
use lib.Seq.{sets}
use Rattle.tick_length.specs.Inner.{held}
use Rattle.sheet_text.specs.Job.{ticks_in, jobs_from}
use Rattle.sheet_text.specs.Sheet.{Said, says, refused_by, sheet_limit, tick_line, sheet_of, table_of, end_of, answer_of, Reading, sheet_read}
use Rattle.sheet_text.specs.declared.sheet.SheetRead.{SheetRead}
use Rattle.sheet_text.proofs.Says.{starts_at}
use Rattle.sheet_text.proofs.Cases.{Case, no_number, out_of_range, too_long, bad_line, same_name, read, case_of}
use Rattle.sheet_text.proofs.Fits.{few_numbers, table_holds}

-- a sheet is read or not
pub no_reading : {A : Type 0} {tick from n no : ℕ} → Ok (sheet_read tick from n) ≡ Err no → A
no_reading e = let z : ◌≡◌ {A = ℕ} 0 1 = cc in absurd (omega arith)

-- two that are equal are read alike
pub same_read : {r q : SheetRead} → ◌≡◌ {A = Reading} (Ok r) (Ok q) → r ≡ q
same_read e = cc

-- a refusal says a refusal
said_refused : (from : ℕ) (w : Said) {n : ℕ} → answer_of from w ≡ Err n → w ≡ refused_by n
unfolding answer_of
said_refused from (says tick js) e = no_reading e
said_refused from (refused_by k) {n} e = let z : k ≡ n = cc in rw z refl

-- how many numbers there are
said_count : (at : ℕ) (w : Said) {tick from n : ℕ} → answer_of at w ≡ Ok (sheet_read tick from n) → n ≡ length (table_of w)
unfolding answer_of table_of
said_count at (says k js) {tick} {from} {n} e = sym (ap (λ (r : SheetRead). r.count) (same_read e))
said_count at (refused_by k) e = no_reading (sym e)

-- in each case
said_read : {s : List ℕ} {w : Said} {k from n : ℕ} → Case s w → answer_of (end_of (tick_line s)) w ≡ Ok (sheet_read k from n)
    → (length s ≤ sheet_limit) × (w ≡ says k (jobs_from (length s) s from))
unfolding answer_of
said_read (no_number h) e = no_reading (sym e)
said_read (out_of_range h k) e = no_reading (sym e)
said_read (too_long t h) e = no_reading (sym e)
said_read (bad_line t h) e = no_reading (sym e)
said_read (same_name l h) e = no_reading (sym e)
said_read {s} {w} {k} {from} (read {tick} {at} l h) e =
    let t : tick ≡ k = ap (λ (r : SheetRead). r.tick) (same_read e) in
    let f : end_of (tick_line s) ≡ from = ap (λ (r : SheetRead). r.from) (same_read e) in
    let a : at ≡ from = sym (starts_at s l.ticked.line) ∙ f in
    (l.short, ap₂ (λ (i j : ℕ). says i (jobs_from (length s) s j)) t a)

module _ (s : List ℕ) {r : Reading} (e : r ≡ answer_of (end_of (tick_line s)) (sheet_of s)) where
  -- a refused sheet
  pub is_refused : {n : ℕ} → r ≡ Err n → sheet_of s ≡ refused_by n
  is_refused p = said_refused (end_of (tick_line s)) (sheet_of s) (sym e ∙ p)

  module _ {tick from n : ℕ} (p : r ≡ Ok (sheet_read tick from n)) where
    -- another has few numbers
    pub is_few : n ≤ 2048
    is_few = omega (arith, few_numbers s, said_count (end_of (tick_line s)) (sheet_of s) (sym e ∙ p))

    -- it has at most 4,096 bytes
    pub is_short : length s ≤ sheet_limit
    is_short = (said_read (case_of s) (sym e ∙ p)).0

    -- it says the tick length and the jobs from the place on, and their ticks stand at the start of the lent table
    pub is_read : (before : List ℕ) {table : List ℕ} → 2048 ≤ length before → table ≡ sets before 0 (map held (table_of (sheet_of s)))
        → (sheet_of s ≡ says tick (jobs_from (length s) s from)) × (take n table ≡ map held (ticks_in tick (jobs_from (length s) s from)))
    unfolding table_of
    is_read before {table} h t =
        let q = (said_read (case_of s) (sym e ∙ p)).1 in
        let c = said_count (end_of (tick_line s)) (sheet_of s) (sym e ∙ p) in
        let z : take n table ≡ map held (table_of (sheet_of s)) = ap₂ (λ (k : ℕ) (l : List ℕ). take k l) c t ∙ table_holds s before h in
        (q, z ∙ ap (λ (w : Said). map held (table_of w)) q)
