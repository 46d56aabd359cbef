-- A sheet has at most 2,048 numbers, two to a line of six bytes or more: a lent table of that length holds them all.
use Rattle.std.specs.declared.option.Option.TheVariants.{Some, None}
use Prim.Native.Nat.{ℕ, zero, suc, ◌+◌, ◌-◌, ◌*◌, ◌≤◌, ◌<◌}
use mathlib.Core.Path.{◌≡◌, refl, ap, ◌∙◌}
use mathlib.Core.List.{List, map}
use native.Mathlib.Omega.{arith}
use borrow.Author.Tests.{ltb-true}
use lib.Dec.{ltb}
use lib.ListN.{length, take, drop, length-map}
use lib.Seq.{sets, sets-eq, take_at}
use Rattle.lists.proofs.Tests.{by_cases}
use Rattle.scanning.specs.Line.{Pair}
use Rattle.names.specs.Name.{name_at}
use Rattle.tick_length.specs.Inner.{held}
use Rattle.sheet_text.specs.Job.{Job, job_at, ticks_in, then_jobs, jobs_from}
use Rattle.sheet_text.specs.Sheet.{Said, sheet_of, table_of}
use Rattle.sheet_text.proofs.Jobs.{job_kept}
use Rattle.sheet_text.proofs.Cases.{Case, no_number, out_of_range, too_long, bad_line, same_name, read, case_of}

-- one line, of six bytes or more, before the later ones
line_fits : (n tick at : ℕ) (later : ℕ → List Job) (name : List ℕ) (line : Pair) → at < n → ((c t next : ℕ) → line ≡ Some (c, t, next) → at + 6 ≤ next)
    → ((next : ℕ) → 3 * length (ticks_in tick (later next)) ≤ n + 5 - next) → 3 * length (ticks_in tick (then_jobs later name line)) ≤ n + 5 - at
unfolding then_jobs
line_fits n tick at later name (Some (c, t, next)) h f g = omega (arith, f c t next refl, g next)
line_fits n tick at later name None h f g = omega arith

-- the numbers of the jobs from a place on; the last line may end past the sheet by five bytes
numbers_fit : (f : ℕ) (s : List ℕ) (tick at : ℕ) → 3 * length (ticks_in tick (jobs_from f s at)) ≤ length s + 5 - at
unfolding jobs_from
numbers_fit zero s tick at = omega arith
numbers_fit (suc f) s tick at =
    by_cases (ltb at (length s))
    (λ h. rw h (line_fits (length s) tick at (λ next. jobs_from f s next) (name_at s at) (job_at s at) (ltb-true at (length s) h)
    (λ c t next e. (job_kept s at c t next e).further) (λ next. numbers_fit f s tick next)))
    (λ h. rw h (omega arith))

-- in each case they are few
case_few : {s : List ℕ} {x : Said} → Case s x → length (table_of x) ≤ 2048
unfolding table_of
case_few (no_number e) = omega arith
case_few (out_of_range e h) = omega arith
case_few (too_long t h) = omega arith
case_few (bad_line t h) = omega arith
case_few (same_name l e) = omega arith
case_few {s} (read {tick} {at} l e) = omega (arith, l.short, numbers_fit (length s) s tick at)

-- the numbers of a sheet
pub few_numbers : (s : List ℕ) → length (table_of (sheet_of s)) ≤ 2048
few_numbers s = case_few (case_of s)

-- so a lent table of 2,048 numbers starts with all of them
pub table_holds : (s l : List ℕ) → 2048 ≤ length l
    → take (length (table_of (sheet_of s))) (sets l 0 (map held (table_of (sheet_of s)))) ≡ map held (table_of (sheet_of s))
table_holds s l h =
    let n = length (table_of (sheet_of s)) in
    let xs = map held (table_of (sheet_of s)) in
    let k : length xs ≡ n = length-map (table_of (sheet_of s)) held in
    ap (take n) (sets-eq xs l 0 (omega (arith, few_numbers s, k))) ∙ take_at xs (drop (0 + length xs) l) n k
