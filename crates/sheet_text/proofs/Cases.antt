-- Each case of what a sheet says, with the facts that lead to it.
use Rattle.std.specs.declared.option.Option.TheVariants.{Some, None}
use Prim.Native.Nat.{ℕ, ◌≤◌, ◌<◌}
use mathlib.Core.Path.{◌≡◌, refl}
use mathlib.Core.Bool.{true, false}
use mathlib.Core.List.{List}
use borrow.Author.Tests.{ltb-true, ltb-false, eqb-true, eqb-false}
use lib.Dec.{ltb, eqb}
use lib.ListN.{length}
use Rattle.lists.proofs.Tests.{by_cases}
use Rattle.units.specs.Refusals.{sheet_no, name_no, tick_no}
use Rattle.scanning.specs.Number.{Number}
use Rattle.tick_length.specs.Ticks.{tick_in}
use Rattle.name_list.specs.Names.{twice}
use Rattle.sheet_text.specs.Job.{bad_job, names_in}
use Rattle.sheet_text.specs.Sheet.{Said, says, refused_by, sheet_limit, tick_line, jobs_said, sheet_of}
use Rattle.sheet_text.proofs.Jobs.{jobs_at}
use Rattle.sheet_text.proofs.Says.{jobs_long, jobs_bad, jobs_twice, jobs_said_lem, sheet_none, sheet_out, sheet_is}

-- the first line is a tick length in range, and the jobs start at a place
pub record Ticked (s : List ℕ) (tick at : ℕ) : Type 0 where
  pub line : tick_line s ≡ Some (tick, at)
  pub range : tick_in tick ≡ true

-- after it at most 4,096 bytes are a line for each job
pub record Listed (s : List ℕ) (tick at : ℕ) : Type 0 where
  pub ticked : Ticked s tick at
  pub short : length s ≤ sheet_limit
  pub fine : bad_job s at ≡ 0

-- what a sheet says in each case
pub data Case (s : List ℕ) : Said → Type 0 where
  no_number : tick_line s ≡ None → Case s (refused_by tick_no)
  out_of_range : {tick at : ℕ} → tick_line s ≡ Some (tick, at) → tick_in tick ≡ false → Case s (refused_by tick_no)
  too_long : {tick at : ℕ} → Ticked s tick at → sheet_limit < length s → Case s (refused_by sheet_no)
  bad_line : {tick at : ℕ} → Ticked s tick at → (bad_job s at ≡ 0 → ⊥) → Case s (refused_by sheet_no)
  same_name : {tick at : ℕ} → Listed s tick at → twice (names_in (jobs_at s at)) ≡ true → Case s (refused_by name_no)
  read : {tick at : ℕ} → Listed s tick at → twice (names_in (jobs_at s at)) ≡ false → Case s (says tick (jobs_at s at))

module _ (s : List ℕ) where
  -- after a tick length in range
  jobs_case : {tick at : ℕ} → Ticked s tick at → Case s (jobs_said s tick at)
  jobs_case {tick} {at} t = by_cases (ltb sheet_limit (length s)) long short
    where
      long : ltb sheet_limit (length s) ≡ true → Case s (jobs_said s tick at)
      long l = let k = ltb-true sheet_limit (length s) l in rw (jobs_long s tick at k) (too_long t k)

      listed : length s ≤ sheet_limit → bad_job s at ≡ 0 → Case s (jobs_said s tick at)
      listed k b =
          let h : Listed s tick at = record { ticked = t; short = k; fine = b } in
          by_cases (twice (names_in (jobs_at s at)))
          (λ e. rw (jobs_twice s tick at k b refl e) (same_name h e))
          (λ e. rw (jobs_said_lem s tick at k b refl e) (read h e))

      short : ltb sheet_limit (length s) ≡ false → Case s (jobs_said s tick at)
      short l =
          let k = ltb-false sheet_limit (length s) l in
          by_cases (eqb (bad_job s at) 0)
          (λ b. listed k (eqb-true (bad_job s at) 0 b))
          (λ b. let z = eqb-false (bad_job s at) 0 b in rw (jobs_bad s tick at k z) (bad_line t z))

  -- every sheet is one of them
  pub case_of : Case s (sheet_of s)
  case_of = go (tick_line s) refl
    where
      go : (n : Number) → tick_line s ≡ n → Case s (sheet_of s)
      go None e = rw (sheet_none s e) (no_number e)
      go (Some (tick, at)) e =
          by_cases (tick_in tick)
          (λ h. rw (sheet_is s e h) (jobs_case (record { line = e; range = h })))
          (λ h. rw (sheet_out s e h) (out_of_range e h))
