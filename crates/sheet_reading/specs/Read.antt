-- Reading a sheet, document 02, R-1: a core count and a sheet to the tick length, the names and the plan, or the refusal.
use Rattle.std.specs.Prelude.{ℕ, cond, List, eqb, length, Result, Ok, Err}
use Rattle.std.proofs.lemmas.List.Edits.{sets}
use Rattle.lists.specs.Lists.{zeros}
use Rattle.planning.specs.declared.Plan.{Plan}
use Rattle.units.specs.declared.refusal.Refusal.{Refusal as Refused}
use Rattle.sheet_reading.specs.declared.PlannedSheet.{PlannedSheet}
use Rattle.units.specs.Refusals.{told, Refusal}
use Rattle.units.specs.Refusals.{refusal, taken}
use Rattle.planning.specs.Plan.{empty_plan, plan_of}
use Rattle.planning.specs.Plan.{Planned}
use Rattle.name_list.specs.Names.{names_text}
use Rattle.sheet_text.specs.Job.{Job, names_in, ticks_in}
use Rattle.sheet_text.specs.Sheet.{Said, says, refused_by, sheet_of}

-- bytes of the names of a table, at most: 64 lines of 13
abbrev pub names_limit : ℕ
names_limit = 832

-- the tick length, the names, a name a line, their length and the plan; or the refusal, and every other number 0
pub record Sheet : Type 0 where
  pub refusal : Refusal
  pub tick : ℕ
  pub names : List ℕ
  pub length : ℕ
  pub plan : Plan

-- a refusal, every other number 0
unfoldable pub unread : Refusal → Sheet
unread r = record { refusal = r; tick = 0; names = zeros names_limit; length = 0; plan = empty_plan }

-- the tick length, the names, a name a line, and the plan of the jobs; or planning's refusal
unfoldable pub planned : ℕ → List Job → Planned → Sheet
planned tick js p =
    cond (eqb p.refusal.no 0)
    (record {
      refusal = taken;
      tick = tick;
      names = sets (zeros names_limit) 0 (names_text (names_in js));
      length = length (names_text (names_in js));
      plan = p.plan;
    })
    (unread p.refusal)

-- what a sheet says is planned, in ticks; 17 to 19 name nothing
unfoldable pub answered : ℕ → Said → Sheet
answered m (says tick js) = planned tick js (plan_of m (ticks_in tick js))
answered m (refused_by n) = unread (refusal n 0)

-- the plan of a sheet: 19, 17, 18, then planning's refusals, or what it says, planned
unfoldable pub plan_sheet : ℕ → List ℕ → Sheet
plan_sheet m s = answered m (sheet_of s)

-- what the code's answer tells
abbrev pub sheet_told : Result PlannedSheet Refused → Sheet
sheet_told (Ok a) = record { refusal = taken; tick = a.tick; names = a.names; length = a.length; plan = a.plan }
sheet_told (Err r) = unread (told r)
