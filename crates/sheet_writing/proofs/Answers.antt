-- The answers of writing.
use Prim.Native.Nat.{ℕ, ◌+◌, ◌*◌, ◌≤◌, ◌<◌}
use mathlib.Core.Path.{◌≡◌, sym, ap, ◌∙◌}
use mathlib.Core.List.{List}
use native.Mathlib.Omega.{arith}
use lib.ListN.{length}
use borrow.Author.Tests.{le-leb, lt-leb, eq-eqb, ne_eqb}
use Rattle.units.specs.Limits.{tasks_limit}
use Rattle.units.specs.Refusals.{refusal, buffer_no}
use Rattle.units.specs.Refusals.{Refusal}
use Rattle.writing.specs.Wrote.{Wrote}
use Rattle.writing.proofs.Wrote.{whole}
use Rattle.sheet_writing.specs.Write.{Written}
use Rattle.sheet_writing.specs.Write.{write_refusal, sheet_for, unwritten, written_whole, fitted, fitted_after, written_of, written_after}
use Rattle.sheet_writing.proofs.Refused.{table_kept}

-- the sheet does not fit, and nothing is written
pub too_long : (text a : List ℕ) {need : ℕ} → need ≡ 0 + length text → length a < need
    → (unwritten (refusal buffer_no 0) ≡ fitted text (length a)) × (a ≡ fitted_after text a)
unfolding fitted fitted_after
too_long text a e h =
    let f : length a < length text = omega arith in
    (rw (lt-leb (length text) (length a) f), rw (lt-leb (length text) (length a) f))

-- it fits, and is written
pub written : (text : List ℕ) {a b : List ℕ} {k need : ℕ} → Wrote a 0 text b k → need ≡ 0 + length text → need ≤ length a
    → (written_whole k ≡ fitted text (length a)) × (b ≡ fitted_after text a)
unfolding fitted fitted_after
written text {a} {b} {k} {need} w e h =
    let f : length text ≤ length a = omega arith in
    let same : k ≡ length text = omega (arith, w.end) in
    (rw (le-leb (length text) (length a) f, same), rw (le-leb (length text) (length a) f) (whole w f))

module _ (m : ℕ) (xs names : List ℕ) (tick : ℕ) (a : List ℕ) {r : Refusal} (e : r ≡ write_refusal m xs names tick) where
  -- its number
  number : r.no ≡ (write_refusal m xs names tick).no
  number = ap (λ (x : Refusal). x.no) e

  -- a refusal, and nothing is written
  pub refused : (r.no ≡ 0 → ⊥) → (unwritten r ≡ written_of m xs names tick (length a)) × (a ≡ written_after m xs names tick a)
  unfolding written_of written_after
  refused n = let z = ne_eqb (write_refusal m xs names tick).no 0 (λ q. n (number ∙ q)) in (rw z (ap unwritten e), rw z)

  module _ (t : r.no ≡ 0) where
    -- the table is short
    pub table_few : length xs ≤ 2 * tasks_limit
    table_few = (table_kept m xs names tick (sym number ∙ t)).tasks_few

    -- else the buffer decides
    pub fits : {b : List ℕ} {w : Written} → w ≡ fitted (sheet_for xs names tick) (length a) → b ≡ fitted_after (sheet_for xs names tick) a
        → (w ≡ written_of m xs names tick (length a)) × (b ≡ written_after m xs names tick a)
    unfolding written_of written_after
    fits f g = let z = eq-eqb (write_refusal m xs names tick).no 0 (sym number ∙ t) in (rw z f, rw z g)
