-- A choice in numbers, as a host in C reads it. What a case does not say is 0.
use Rattle.std.specs.Prelude.{ℕ, cond, eqb}
use Rattle.units.specs.Units.{ticks}
use Rattle.core_choice.specs.declared.Side.TheVariants.{Upper, Lower}
use Rattle.core_choice.specs.declared.Choice.{Choice}
use Rattle.core_choice.specs.declared.Choice.TheVariants.{Idle, Fixed, Mover}
use Rattle.core_choice.specs.declared.Told.{Told}

-- a choice's kind: idle, a fixed task, a lower mover, an upper mover
abbrev pub choice_kind : Choice → ℕ
choice_kind Idle = 0
choice_kind (Fixed i d) = 1
choice_kind (Mover i d Lower) = 2
choice_kind (Mover i d Upper) = 3

-- its task, from 1
abbrev pub choice_task : Choice → ℕ
choice_task Idle = 0
choice_task (Fixed i d) = i
choice_task (Mover i d side) = i

-- its deadline
abbrev pub choice_deadline : Choice → ℕ
choice_deadline Idle = 0
choice_deadline (Fixed i d) = d.0
choice_deadline (Mover i d side) = d.0

-- all three
abbrev pub told_of : Choice → Told
told_of c = record { kind = choice_kind c; task = choice_task c; deadline = ticks (choice_deadline c) }

-- the choice that three numbers tell
abbrev pub choice_told : Told → Choice
choice_told n =
    cond (eqb n.kind 0) Idle
    (cond (eqb n.kind 1) (Fixed n.task n.deadline)
    (cond (eqb n.kind 2) (Mover n.task n.deadline Lower) (Mover n.task n.deadline Upper)))
