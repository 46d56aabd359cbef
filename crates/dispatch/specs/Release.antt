-- Release: the run's core and its deadline, from its release time on.
use Rattle.std.specs.Prelude.{ℕ, ◌-◌, cond, eqb, Result, Ok, Err}
use Rattle.units.specs.Units.{ticks}
use Rattle.units.specs.Refusals.{number, or_kept}
use Rattle.stored_runs.specs.declared.Run.{Run}
use Rattle.units.specs.declared.refusal.Reason.{Reason}
use Rattle.units.specs.declared.ticks.Ticks.{Ticks}
use Rattle.task_state.specs.Due.{release_at}
use Rattle.task_state.specs.Runs.{turn_at, due_at, with_run}
use Rattle.dispatch.specs.declared.Record.{Record}
use Rattle.dispatch.specs.Record.{line_at, state_at, moved}
use Rattle.dispatch.specs.Refusals.{release_refusal}

-- the refusal's number, or 0 with the run's core and deadline; and the record after the call
pub record Released : Type 0 where
  pub refusal : ℕ
  pub core : ℕ
  pub deadline : Ticks
  pub next : Record

-- an accepted release of task i, from 1
unfoldable pub take_release : Record → ℕ → ℕ → Released
take_release r i t =
    let ln = line_at r (i - 1) in
    let st = state_at r (i - 1) in
    record {
      refusal = 0;
      core = (turn_at ln st).core;
      deadline = ticks (due_at ln st t);
      next = moved r (i - 1) (with_run ln st (release_at ln st t)) t;
    }

-- a refused one: every other number 0, the same record
unfoldable pub refuse_release : ℕ → Record → Released
refuse_release n r = record { refusal = n; core = 0; deadline = ticks 0; next = r }

-- release
unfoldable pub release_of : Record → ℕ → ℕ → Released
release_of r i t = cond (eqb (release_refusal r i t) 0) (take_release r i t) (refuse_release (release_refusal r i t) r)

-- what the code's answer tells
abbrev pub release_told : Result Run Reason → Record → Released
release_told (Ok run) r = record { refusal = 0; core = run.core; deadline = run.deadline; next = r }
release_told (Err e) r = refuse_release (number e) r

-- release, with a core and a deadline that are answered where it is refused
unfoldable pub release_or : Record → ℕ → ℕ → ℕ → Ticks → Released
release_or r i t core deadline =
    let a = release_of r i t in
    record { refusal = a.refusal; core = or_kept a.refusal a.core core; deadline = or_kept a.refusal a.deadline deadline; next = a.next }
