-- Admission: planning's tests 1 to 6 in their order, and what a table that is taken is planned with.
use Rattle.std.specs.Prelude.{ℕ, Result, Ok, Err, cond, List, eqb}
use Rattle.units.specs.Limits.{tasks_limit}
use Rattle.units.specs.Units.{units}
use Rattle.lists.specs.Lists.{zeros}
use Rattle.arith.specs.Period.{periods, common, period_of}
use Rattle.units.specs.declared.share.Share.{Share}
use Rattle.units.specs.Refusals.{told}
use Rattle.units.specs.declared.refusal.Refusal.{Refusal as Refused}
use Rattle.admission.specs.declared.admit.Admitted.{Admitted}
use Rattle.admission.specs.Weight.{weights, padded}
use Rattle.admission.specs.Refusals.{◌or_else◌, input_test, weights_test}
use Rattle.units.specs.Refusals.{refusal, taken, period_no}
use Rattle.units.specs.Refusals.{Refusal}

-- 5: the common period exceeds its limit, naming the first task that takes it over
abbrev pub period_test : Result ℕ ℕ → Refusal
period_test (Ok l) = taken
period_test (Err k) = refusal period_no k

-- the first refusal that applies: 1, 2, then tasks in table order (3 before 4 in each), then 5, then 6
unfoldable pub plan_refusal : ℕ → List ℕ → Refusal
plan_refusal m xs =
    input_test m xs
    or_else period_test (period_of (periods xs))
    or_else weights_test m (common (periods xs)) (weights (common (periods xs)) xs)

-- the refusal, or none with the common period and each task's weight
pub record Admission : Type 0 where
  pub refusal : Refusal
  pub common : ℕ
  pub weights : List Share

-- a refusal, every other number 0
unfoldable pub refused_with : Refusal → Admission
refused_with r = record { refusal = r; common = 0; weights = units (zeros tasks_limit) }

-- a table that is taken: its common period and its weights
unfoldable pub taken_with : ℕ → List ℕ → Admission
taken_with l ws = record { refusal = taken; common = l; weights = units (padded ws) }

-- the first refusal that applies, or none with the common period and the weights
unfoldable pub admission_of : ℕ → List ℕ → Admission
admission_of m xs =
    cond (eqb (plan_refusal m xs).no 0)
    (taken_with (common (periods xs)) (weights (common (periods xs)) xs))
    (refused_with (plan_refusal m xs))

-- what the code's answer tells
abbrev pub admission_told : Result Admitted Refused → Admission
admission_told (Ok a) = record { refusal = taken; common = a.common; weights = a.weights }
admission_told (Err r) = refused_with (told r)
