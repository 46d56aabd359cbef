-- Document 01's number and values for each case of an answer. What a case does not say is 0.
use Rattle.std.specs.Prelude.{ℕ, ℤ, pos}
use Rattle.core_choice.specs.Told.{choice_kind, choice_task, choice_deadline}
use Rattle.dispatch.specs.Calls.{Answer}
use Rattle.dispatch.specs.Calls.Answer.{Refused, Released, Finished, Looked}

-- every number that a call can answer
pub record Values : Type 0 where
  pub refusal : ℕ
  pub core : ℕ
  pub late : ℤ
  pub kind : ℕ
  pub task : ℕ
  pub deadline : ℕ

-- a refusal; a run's core and deadline; the time less the deadline; a core's choice
abbrev pub values_of : Answer → Values
values_of (Refused x) = record { refusal = x.no; core = 0; late = pos 0; kind = 0; task = 0; deadline = 0 }
values_of (Released p d) = record { refusal = 0; core = p; late = pos 0; kind = 0; task = 0; deadline = d.0 }
values_of (Finished z) = record { refusal = 0; core = 0; late = z; kind = 0; task = 0; deadline = 0 }
values_of (Looked c) = record { refusal = 0; core = 0; late = pos 0; kind = choice_kind c; task = choice_task c; deadline = choice_deadline c }
