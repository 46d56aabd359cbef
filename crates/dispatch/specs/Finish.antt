-- Finish: ends the task's oldest unfinished run and answers the time less its deadline.
use Rattle.std.specs.Prelude.{ℕ, ◌-◌, cond, eqb, ℤ, pos, Result, Ok, Err}
use Rattle.std.proofs.Math.IntN.{sub_ℕ}
use Rattle.units.specs.Refusals.{number, or_kept}
use Rattle.units.specs.declared.refusal.Reason.{Reason}
use Rattle.task_state.specs.State.{run_at}
use Rattle.task_state.specs.Runs.{without_run}
use Rattle.dispatch.specs.declared.Record.{Record}
use Rattle.dispatch.specs.Record.{state_at, moved}
use Rattle.dispatch.specs.Refusals.{finish_refusal}

-- the refusal's number, or 0 with the time less the deadline; and the record after the call
pub record Finished : Type 0 where
  pub refusal : ℕ
  pub late : ℤ
  pub next : Record

-- an accepted finish of task i, from 1: negative if early, 0 if on the deadline
unfoldable pub take_finish : Record → ℕ → ℕ → Finished
take_finish r i t = record {
  refusal = 0;
  late = sub_ℕ t (run_at (state_at r (i - 1)) 0).deadline.0;
  next = moved r (i - 1) (without_run (state_at r (i - 1))) t;
}

-- a refused one
unfoldable pub refuse_finish : ℕ → Record → Finished
refuse_finish n r = record { refusal = n; late = pos 0; next = r }

-- finish
unfoldable pub finish_of : Record → ℕ → ℕ → Finished
finish_of r i t = cond (eqb (finish_refusal r i t) 0) (take_finish r i t) (refuse_finish (finish_refusal r i t) r)

-- what the code's answer tells
abbrev pub finish_told : Result ℤ Reason → Record → Finished
finish_told (Ok late) r = record { refusal = 0; late = late; next = r }
finish_told (Err e) r = refuse_finish (number e) r

-- finish, with a lateness that is answered where it is refused
unfoldable pub finish_or : Record → ℕ → ℕ → ℤ → Finished
finish_or r i t late = let a = finish_of r i t in record { refusal = a.refusal; late = or_kept a.refusal a.late late; next = a.next }
