-- The sheet of a table that plans is short enough to be read.
use Prim.Native.Nat.{ℕ, suc, ◌+◌, ◌*◌, ◌/◌, ◌≤◌, ◌<◌}
use mathlib.Core.Path.{◌≡◌}
use mathlib.Core.List.{List, [], ◌∷◌, ◌++◌}
use native.Mathlib.Omega.{arith}
use native.Mathlib.Nat.{mul-le-mul}
use lib.Dec.{ltb, eqb}
use lib.ListN.{length, get_or, length-append}
use borrow.Author.Tests.{leb-true, eqb-true}
use Rattle.lists.proofs.Tests.{by_cases, and_right}
use Rattle.writing.specs.Ascii.{newline}
use Rattle.writing.specs.Decimal.{decimal_of}
use Rattle.writing.proofs.Decimal.{decimal_length}
use Rattle.admission.proofs.Kept.{Fine, Kept}
use Rattle.names.specs.Name.{Name}
use Rattle.name_list.specs.Names.{names_of, bad_name, names_said}
use Rattle.name_list.proofs.Lists.{All, names_only}
use Rattle.tick_length.specs.Ticks.{tick_in, tick_limit}
use Rattle.sheet_text.specs.Job.{Job, job, comma}
use Rattle.sheet_text.specs.Grammar.{tick_written, job_written, jobs_written}
use Rattle.sheet_writing.specs.Write.{jobs_with, tick_test, count_test, write_refusal, sheet_for}
use Rattle.sheet_writing.proofs.Refused.{passes, table_kept}

-- a job's line, its numbers at most 10^12
line_short : (j : Job) → length j.name ≤ 12 → j.cost ≤ 1000000000000 → j.period ≤ 1000000000000 → length (job_written j) ≤ 41
line_short j n c p =
    let a = comma ∷ decimal_of j.cost in
    let b = comma ∷ decimal_of j.period in
    omega (
      arith,
      n,
      decimal_length 12 j.cost (omega arith),
      decimal_length 12 j.period (omega arith),
      length-append j.name a,
      length-append (j.name ++ a) b,
      length-append (j.name ++ a ++ b) (newline ∷ []),
    )

-- a number of ticks in nanoseconds
pub nanos : (n tick : ℕ) → n ≤ 1000000 → tick ≤ 1000000 → n * tick ≤ 1000000000000
nanos n tick h k = omega (arith, mul-le-mul h k)

-- each task of a table is fine
abbrev pub Tasks : List ℕ → Type 0
Tasks xs = (k : ℕ) → 2 * k + 1 < length xs → Fine (get_or xs (2 * k) 0) (get_or xs (2 * k + 1) 0)

-- so are those after the first
pub later : (c t : ℕ) (xs : List ℕ) → Tasks (c ∷ t ∷ xs) → Tasks xs
later c t xs h k p =
    let a : 2 * suc k ≡ suc (suc (2 * k)) = omega arith in
    let b : 2 * suc k + 1 ≡ suc (suc (2 * k + 1)) = omega arith in
    rw (b, a) at (h (suc k) (omega arith))

-- the lines of the jobs: 41 bytes for two numbers of the table
jobs_short : (tick : ℕ) (ns : List (List ℕ)) (xs : List ℕ) → tick ≤ 1000000 → All Name ns → Tasks xs
    → 2 * length (jobs_written (jobs_with tick ns xs)) ≤ 41 * length xs
jobs_short tick [] xs h n t = omega arith
jobs_short tick (m ∷ ns) [] h n t = omega arith
jobs_short tick (m ∷ ns) (c ∷ []) h n t = omega arith
jobs_short tick (m ∷ ns) (c ∷ p ∷ xs) h n t =
    let f = t 0 (omega arith) in
    let j = job m (c * tick) (p * tick) in
    omega (
      arith,
      line_short j (n 0 (omega arith)).few (nanos c tick (omega (arith, f.fits, f.period)) h) (nanos p tick f.period h),
      length-append (job_written j) (jobs_written (jobs_with tick ns xs)),
      jobs_short tick ns xs h (λ i q. n (suc i) (omega arith)) (later c p xs t),
    )

-- a tick length that is not refused
tick_fits : (tick : ℕ) → (tick_test tick).no ≡ 0 → tick ≤ 1000000
tick_fits tick e =
    by_cases (tick_in tick)
    (λ t. leb-true tick tick_limit (and_right (ltb 0 tick) _ t))
    (λ t. absurd (omega (arith, rw t at e)))

-- names that are not refused
names_fit : (tasks : ℕ) (names : List ℕ) → (count_test tasks (names_said names)).no ≡ 0 → All Name (names_of names)
unfolding count_test names_said
names_fit tasks names e =
    by_cases (eqb (bad_name names) 0)
    (λ t. (names_only names (eqb-true _ 0 t)).0)
    (λ t. absurd (omega (arith, rw t at e)))

-- the sheet of a table that plans has at most 4,096 bytes
pub sheet_short : (m : ℕ) (xs names : List ℕ) (tick : ℕ) → (write_refusal m xs names tick).no ≡ 0 → length (sheet_for xs names tick) ≤ 4096
unfolding sheet_for
sheet_short m xs names tick e =
    let p = passes m xs names tick e in
    let k : Kept m xs = table_kept m xs names tick e in
    let t = tick_fits tick p.0 in
    let js = jobs_written (jobs_with tick (names_of names) xs) in
    omega (
      arith,
      decimal_length 6 tick (omega (arith, t)),
      length-append (decimal_of tick) (newline ∷ []),
      length-append (tick_written tick) js,
      jobs_short tick (names_of names) xs t (names_fit (length xs / 2) names p.1) k.tasks,
      k.tasks_few,
    )
