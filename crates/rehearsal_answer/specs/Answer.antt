-- What the program `rehearse` writes, document 02, R-6: a day's lines, or the first refusal that applies, in this order: 16, planning's, 12, then 25 to 27.
use Rattle.std.specs.Prelude.{ℕ, ◌+◌, Bool, cond, List, ltb, eqb}
use Rattle.units.specs.Limits.{clock_limit}
use Rattle.units.specs.Refusals.{refusal, clock_no, text_no, arrival_no}
use Rattle.units.specs.Refusals.{Refusal}
use Rattle.writing.specs.Refused.{refusal_text}
use Rattle.planning.specs.declared.Plan.{Plan}
use Rattle.planning.specs.Plan.{Planned}
use Rattle.planning.specs.Plan.{plan_of}
use Rattle.arrivals.specs.Arrivals.{arrivals_in, arrivals_refusal}
use Rattle.day_rules.specs.Day.{day_text}
use Rattle.day_text.specs.Input.{DaySays, rehearses, unreadable, day_of}

-- arrivals of which none is refused: 25 for a line that is left after them, which it names as an arrival; else the day
unfoldable pub left_text : Plan → ℕ → List ℕ → Bool → List ℕ
left_text pl stop ys more = cond more (refusal_text (refusal arrival_no (arrivals_in ys + 1))) (day_text pl ys stop)

-- the refusal of the first arrival that is refused: 25, 26 or 27
abbrev pub first_refused : Plan → List ℕ → Refusal
first_refused pl ys = arrivals_refusal pl ys (arrivals_in ys)

-- all arrivals are tested, in list order, before the first tick
unfoldable pub tested_text : Plan → ℕ → List ℕ → Bool → List ℕ
tested_text pl stop ys more = cond (eqb (first_refused pl ys).no 0) (left_text pl stop ys more) (refusal_text (first_refused pl ys))

-- 12 for a stop above the clock's limit
unfoldable pub stopped_text : Plan → ℕ → List ℕ → Bool → List ℕ
stopped_text pl stop ys more = cond (ltb clock_limit stop) (refusal_text (refusal clock_no 0)) (tested_text pl stop ys more)

-- planning's refusal, of a table that is not taken
unfoldable pub planned_text : Planned → ℕ → List ℕ → Bool → List ℕ
planned_text p stop ys more = cond (eqb p.refusal.no 0) (stopped_text p.plan stop ys more) (refusal_text p.refusal)

-- 16 for an input that cannot be read, with the line that is named
unfoldable pub said_text : DaySays → List ℕ
said_text (rehearses m xs stop ys more) = planned_text (plan_of m xs) stop ys more
said_text (unreadable line) = refusal_text (refusal text_no line)

-- the whole input
unfoldable pub rehearsal_text : List ℕ → List ℕ
rehearsal_text s = said_text (day_of s)
