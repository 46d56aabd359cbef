-- A sheet that is taken: what it says, and what is answered.
use Prim.Native.Nat.{ℕ, suc, ◌+◌, ◌*◌, ◌≤◌}
use mathlib.Core.Path.{◌≡◌, refl, sym, ◌∙◌, subst}
use mathlib.Core.List.{List, [], ◌∷◌}
use native.Mathlib.Omega.{arith}
use borrow.Author.Tests.{eqb-true, eqb-false}
use lib.Dec.{eqb}
use lib.ListN.{length, length-append}
use lib.Seq.{sets}
use Rattle.lists.specs.Lists.{zeros}
use Rattle.lists.proofs.Tests.{by_cases}
use Rattle.units.specs.Limits.{tasks_limit}
use Rattle.units.specs.Refusals.{taken}
use Rattle.writing.specs.Ascii.{newline}
use Rattle.admission.specs.Admission.{plan_refusal}
use Rattle.admission.proofs.Kept.{kept}
use Rattle.admission.proofs.Admitting.{passed}
use Rattle.planning.specs.Plan.{plan_of}
use Rattle.soundness.proofs.Taken.{plan_number}
use Rattle.name_list.specs.Names.{names_text}
use Rattle.sheet_text.specs.Job.{Job, none, also, names_in, ticks_in}
use Rattle.sheet_text.specs.Sheet.{Said, says, refused_by, sheet_of}
use Rattle.sheet_text.specs.Grammar.{AllGood, Says, sheet}
use Rattle.sheet_text.proofs.EverySheet.{says_so}
use Rattle.sheet_text.proofs.Cases.{Case, no_number, out_of_range, too_long, bad_line, same_name, read, case_of}
use Rattle.sheet_reading.specs.Read.{names_limit, unread, planned, answered, plan_sheet}
use Rattle.sheet_reading.specs.Read.{Sheet}

-- what is answered of a sheet that is taken
abbrev pub read_sheet : ℕ → ℕ → List Job → Sheet
read_sheet m tick js = record {
  refusal = taken;
  tick = tick;
  names = sets (zeros names_limit) 0 (names_text (names_in js));
  length = length (names_text (names_in js));
  plan = (plan_of m (ticks_in tick js)).plan;
}

-- it says a tick length and jobs that planning takes
pub record Taken (m : ℕ) (s : List ℕ) : Type 0 where
  pub tick : ℕ
  pub jobs : List Job
  pub said : sheet_of s ≡ says tick jobs
  pub admitted : (plan_refusal m (ticks_in tick jobs)).no ≡ 0
  pub is : plan_sheet m s ≡ read_sheet m tick jobs

-- two numbers that refuse a sheet are the same
same_number : {k n : ℕ} → refused_by k ≡ refused_by n → k ≡ n
same_number e = cc

-- the number that refuses a sheet is not 0
number : {s : List ℕ} {w : Said} {n : ℕ} → Case s w → w ≡ refused_by n → n ≡ 0 → ⊥
number (no_number h) e z = omega (arith, same_number e, z)
number (out_of_range h k) e z = omega (arith, same_number e, z)
number (too_long t h) e z = omega (arith, same_number e, z)
number (bad_line t h) e z = omega (arith, same_number e, z)
number (same_name l h) e z = omega (arith, same_number e, z)
number (read l h) e z = let k : ◌≡◌ {A = ℕ} 0 1 = cc in omega (arith, k)

module _ (m : ℕ) (s : List ℕ) where
  -- a sheet with no refusal is taken
  pub is_taken : (plan_sheet m s).refusal.no ≡ 0 → Taken m s
  unfolding plan_sheet answered planned unread
  is_taken = go (sheet_of s) refl
    where
      go : (w : Said) → sheet_of s ≡ w → (answered m w).refusal.no ≡ 0 → Taken m s
      go (says tick js) e h =
          by_cases (eqb (plan_of m (ticks_in tick js)).refusal.no 0)
          (λ k. record {
            tick = tick;
            jobs = js;
            said = e;
            admitted = sym (plan_number m (ticks_in tick js)) ∙ eqb-true _ 0 k;
            is = rw (e, k) refl;
          })
          (λ k. absurd (eqb-false (plan_of m (ticks_in tick js)).refusal.no 0 k (rw k at h)))
      go (refused_by n) e h = absurd (number (case_of s) e h)

-- the numbers of jobs are two for each
ticks_long : (tick : ℕ) (js : List Job) → length (ticks_in tick js) ≡ 2 * length js
ticks_long tick [] = refl
ticks_long tick (j ∷ js) = omega (arith, ticks_long tick js)

-- names of at most twelve letters, a name a line
names_long : {js : List Job} → AllGood js → length (names_text (names_in js)) ≤ 13 * length js
names_long none = omega arith
names_long (also {j} {js} g gs) =
    let a : length (names_text (names_in (j ∷ js))) ≡ length j.name + suc (length (names_text (names_in js))) =
    length-append j.name (newline ∷ names_text (names_in js)) in
    omega (arith, a, g.name.few, names_long gs)

module _ {m : ℕ} {s : List ℕ} (t : Taken m s) where
  -- its jobs are written in it, and no name stands twice
  pub written : Says s (says t.tick t.jobs)
  written = subst (Says s) t.said (says_so s)

  -- there are at most sixty-four
  pub few_jobs : length t.jobs ≤ tasks_limit
  few_jobs =
      let xs = ticks_in t.tick t.jobs in
      omega (arith, ticks_long t.tick t.jobs, (kept m xs (passed m xs t.admitted).0).tasks_few)

  -- so their names fit
  pub names_short : length (names_text (names_in t.jobs)) ≤ names_limit
  names_short = go written
    where
      go : Says s (says t.tick t.jobs) → length (names_text (names_in t.jobs)) ≤ names_limit
      go (sheet h d) = omega (arith, names_long h.good, few_jobs)
