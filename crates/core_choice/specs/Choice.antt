-- Who goes first on a core, of the best task so far and another; and the choice that a task is.
use Rattle.std.specs.Prelude.{ℕ, cond, ◌&&◌, ◌||◌, ltb, eqb}
use Rattle.units.specs.Units.{ticks}
use Rattle.planning.specs.declared.Line.{Line}
use Rattle.task_state.specs.declared.State.{State}
use Rattle.task_state.specs.Key.{waits, key_of}
use Rattle.core_choice.specs.declared.Side.TheVariants.{Upper, Lower}
use Rattle.core_choice.specs.declared.Choice.{Choice}
use Rattle.core_choice.specs.declared.Choice.TheVariants.{Idle, Fixed, Mover}
use Rattle.core_choice.specs.declared.Best.{Best}

-- the better of the best task so far and task i, from 1, at an instant x: lowest task number at a tie
abbrev pub better_task : Best → ℕ → Line → State → ℕ → ℕ → Best
better_task b i ln st k x =
    cond (waits ln st k x && (eqb b.task 0 || ltb (key_of ln st k) b.key))
    (record { task = i; key = key_of ln st k })
    b

-- the choice that the best task is, by its deadline: idle, an upper or a lower mover, or a fixed task
abbrev pub choice_by : Best → ℕ → Choice
choice_by b due =
    cond (eqb b.task 0) Idle
    (cond (eqb b.key 0) (Mover b.task (ticks due) Upper)
    (cond (eqb b.key 1) (Mover b.task (ticks due) Lower)
    (Fixed b.task (ticks due))))
