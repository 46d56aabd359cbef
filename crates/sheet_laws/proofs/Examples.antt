-- Sheets and what they say, by computation from the definitions.
use Prim.Native.Nat.{ℕ}
use mathlib.Core.Path.{◌≡◌, refl}
use mathlib.Core.List.{List, [], ◌∷◌}
use Rattle.units.specs.Refusals.{refusal, taken}
use Rattle.writing.specs.Ascii.{ascii}
use Rattle.writing.specs.Decimal.{decimal_of}
use Rattle.scanning.specs.Number.{digit_of, digits_of, first_of, number_at}
use Rattle.scanning.specs.Line.{followed_by, field_at, second_after, first_after}
use Rattle.scanning.specs.Lines.{pair_end, unreadable_from}
use Rattle.arith.specs.Divisor.{euclid, gcd, lcm}
use Rattle.arith.specs.Period.{common, period_of}
use Rattle.admission.specs.Refusals.{input_test}
use Rattle.admission.specs.Admission.{plan_refusal}
use Rattle.planning.specs.Plan.{refused_plan, taken_plan, plan_of}
use Rattle.names.specs.Name.{letters, name_at, name_by, name_end}
use Rattle.name_list.specs.Names.{names_from}
use Rattle.sheet_text.specs.Job.{job, ticks_in, after_name, job_at, then_jobs, jobs_from}
use Rattle.sheet_text.specs.Sheet.{says, named, jobs_said, after_tick, sheet_of, jobs_of}
use Rattle.sheet_reading.specs.Read.{unread, planned, answered, plan_sheet}
use Rattle.sheet_writing.specs.Write.{sheet_for}

-- a sheet of two jobs
abbrev two : List ℕ
two = ascii "1000\ncam,5000,6999\nb,1,3000\n"

-- what it says
pub said : sheet_of two ≡ says 1000 (job (ascii "cam") 5000 6999 ∷ job (ascii "b") 1 3000 ∷ [])
unfolding sheet_of after_tick field_at followed_by number_at first_of digit_of digits_of jobs_said named unreadable_from pair_end job_at after_name name_end name_by name_at letters second_after first_after jobs_from then_jobs
said = refl

-- its table, in ticks of 1,000 nanoseconds: costs rounded up, periods down
pub in_ticks : ticks_in 1000 (jobs_of (sheet_of two)) ≡ 5 ∷ 6 ∷ 1 ∷ 3 ∷ []
unfolding sheet_of after_tick field_at followed_by number_at first_of digit_of digits_of jobs_said named unreadable_from pair_end job_at after_name name_end name_by name_at letters second_after first_after jobs_from then_jobs
in_ticks = refl

-- on two cores it is planned as that table
pub read : ((plan_sheet 2 two).refusal ≡ taken) × ((plan_sheet 2 two).plan ≡ (plan_of 2 (5 ∷ 6 ∷ 1 ∷ 3 ∷ [])).plan)
unfolding plan_sheet answered planned unread plan_of taken_plan refused_plan plan_refusal input_test period_of common lcm gcd euclid sheet_of after_tick field_at followed_by number_at first_of digit_of digits_of jobs_said named unreadable_from pair_end job_at after_name name_end name_by name_at letters second_after first_after jobs_from then_jobs
read = (refl, refl)

-- written again, each number is whole ticks
pub written : sheet_for (5 ∷ 6 ∷ 1 ∷ 3 ∷ []) (ascii "cam\nb\n") 1000 ≡ ascii "1000\ncam,5000,6000\nb,1000,3000\n"
unfolding sheet_for decimal_of names_from name_end name_by name_at letters
written = refl

-- a cost of fifteen digits, longer than its period: refused by 4, naming the task
pub long_cost : (plan_sheet 1 (ascii "1\na,999999999999999,5\n")).refusal ≡ refusal 4 1
unfolding plan_sheet answered planned unread plan_of taken_plan refused_plan plan_refusal input_test period_of common lcm gcd euclid sheet_of after_tick field_at followed_by number_at first_of digit_of digits_of jobs_said named unreadable_from pair_end job_at after_name name_end name_by name_at letters second_after first_after jobs_from then_jobs
long_cost = refl

-- the same name twice: refused by 18, though the second job's numbers are 0 and planning would refuse it
pub name_twice_lem : (plan_sheet 1 (ascii "1\na,1,1\na,0,0\n")).refusal ≡ refusal 18 0
unfolding plan_sheet answered unread sheet_of after_tick field_at followed_by number_at first_of digit_of digits_of jobs_said named unreadable_from pair_end job_at after_name name_end name_by name_at letters second_after first_after jobs_from then_jobs
name_twice_lem = refl
