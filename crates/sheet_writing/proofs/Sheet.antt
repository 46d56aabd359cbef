-- Writing the sheet, a job's line after another.
use Rattle.std.specs.declared.option.Option.TheVariants.{Some, None}
use Prim.Native.Nat.{ℕ, ◌+◌, ◌*◌, ◌-◌, ◌/◌, ◌≤◌, ◌<◌}
use mathlib.Core.Path.{◌≡◌, refl, sym, ap, ap₂, ◌∙◌}
use mathlib.Core.List.{List, [], ◌∷◌, ◌++◌, append-nil, append_assoc}
use native.Mathlib.Omega.{arith}
use native.Mathlib.Nat.{mul-le-mul}
use lib.ListN.{length, get_or, take, drop}
use Rattle.lists.proofs.Pairs.{pair_drop, pair_end}
use Rattle.writing.specs.Ascii.{newline}
use Rattle.writing.specs.Decimal.{decimal_of}
use Rattle.writing.specs.Wrote.{Wrote}
use Rattle.writing.proofs.Wrote.{none, then, recast}
use Rattle.scanning.specs.Lines.{unless_zero}
use Rattle.names.specs.Name.{name_end}
use Rattle.names.proofs.Parts.{parted}
use Rattle.name_list.proofs.Lines.{names_here, names_none, names_later}
use Rattle.sheet_text.specs.Job.{Job, job}
use Rattle.sheet_text.specs.Grammar.{job_written, jobs_written}
use Rattle.sheet_writing.specs.Write.{jobs_with, sheet_for}

-- a product of two numbers of 32 bits has 64
pub product_fits : (a b : ℕ) → a < 4294967296 → b < 4294967296 → a * b < 18446744073709551616
product_fits a b h k =
    let x : a ≤ 4294967295 = omega arith in
    let y : b ≤ 4294967295 = omega arith in
    omega (arith, mul-le-mul x y)

-- less than a pair is no job
jobs_end : (tick : ℕ) (ns : List (List ℕ)) (xs : List ℕ) → length xs < 2 → jobs_with tick ns xs ≡ []
jobs_end tick [] xs h = refl
jobs_end tick (n ∷ ns) [] h = refl
jobs_end tick (n ∷ ns) (c ∷ []) h = refl
jobs_end tick (n ∷ ns) (c ∷ t ∷ xs) h = absurd (omega arith)

-- the jobs that are left from task k of the table on, with the names from a place on
abbrev pub jobs_left : List ℕ → List ℕ → ℕ → ℕ → ℕ → List Job
jobs_left xs names tick at k = jobs_with tick (names_here names at) (drop (2 * k) xs)

-- while the jobs are written from a place on: the lines of the tasks before k are, and with those that are left they make up the whole
pub record Writing (xs names : List ℕ) (tick : ℕ) (before : List ℕ) (start : ℕ) (now : List ℕ) (at end k : ℕ) : Type 0 where
  pub done : List ℕ
  pub wrote : Wrote before start done now end
  pub left : done ++ jobs_written (jobs_left xs names tick at k) ≡ jobs_written (jobs_left xs names tick 0 0)
  pub short : end ≤ start + 60 * k

-- at first none is
pub begun : (xs names : List ℕ) (tick : ℕ) (l : List ℕ) (start : ℕ) → Writing xs names tick l start l 0 start 0
begun xs names tick l start = record {
  done = [];
  wrote = none l start;
  left = refl;
  short = omega arith;
}

-- the first line and those of the jobs
pub whole_sheet : (xs names : List ℕ) (tick : ℕ) {a b d l : List ℕ} {i j k : ℕ} → Wrote a 0 (decimal_of tick) b i → Wrote b i (newline ∷ []) d j
    → Wrote d j (jobs_written (jobs_left xs names tick 0 0)) l k → Wrote a 0 (sheet_for xs names tick) l k
unfolding sheet_for
whole_sheet xs names tick p q w = then (then p q) w

module _ {xs names : List ℕ} {tick : ℕ} {before : List ℕ} {start : ℕ} {now : List ℕ} {at end k : ℕ} (h : Writing xs names tick before start now at end k) where
  -- a job's line more
  pub onward : {l : List ℕ} {next e : ℕ} → k < length xs / 2 → Some next ≡ unless_zero (name_end names newline at)
      → Wrote now end (job_written (job (take (next - 1 - at) (drop at names)) (get_or xs (2 * k) 0 * tick) (get_or xs (2 * k + 1) 0 * tick))) l e
      → e ≤ end + 60 → Writing xs names tick before start l next e (k + 1)
  onward {l} {next} {e} t p w f =
      let c = get_or xs (2 * k) 0 in
      let d = get_or xs (2 * k + 1) 0 in
      let part = take (next - 1 - at) (drop at names) in
      let line = job_written (job part (c * tick) (d * tick)) in
      let rest = jobs_written (jobs_left xs names tick next (k + 1)) in
      let n : line ++ rest ≡ jobs_written (jobs_left xs names tick at k) =
      ap (λ (x : List ℕ). job_written (job x (c * tick) (d * tick)) ++ rest) (parted names newline at (omega arith) p).is
      ∙ sym (ap₂ (λ (ns : List (List ℕ)) (ys : List ℕ). jobs_written (jobs_with tick ns ys)) (names_later names at p) (pair_drop xs k (omega (arith, t)))) in
      record {
        done = h.done ++ line;
        wrote = then h.wrote w;
        left = append_assoc h.done line rest ∙ ap (λ (x : List ℕ). h.done ++ x) n ∙ h.left;
        short = omega (arith, h.short, f);
      }

  -- with no more jobs all are
  all : jobs_left xs names tick at k ≡ [] → Wrote before start (jobs_written (jobs_left xs names tick 0 0)) now end
  all e = recast (sym (append-nil h.done) ∙ ap (λ (js : List Job). h.done ++ jobs_written js) (sym e) ∙ h.left) h.wrote

  -- at the end of the table there are no more
  pub ended : length xs / 2 ≤ k → Wrote before start (jobs_written (jobs_left xs names tick 0 0)) now end
  ended e = all (jobs_end tick (names_here names at) (drop (2 * k) xs) (pair_end xs k e))

  -- nor where no name is left
  pub stopped : None ≡ unless_zero (name_end names newline at) → Wrote before start (jobs_written (jobs_left xs names tick 0 0)) now end
  stopped e = all (ap (λ (ns : List (List ℕ)). jobs_with tick ns (drop (2 * k) xs)) (names_none names at e))
