-- What an instant asks of a task, by its line, its state and its runs' lengths.
use Rattle.std.specs.Prelude.{ℕ, ◌+◌, ◌-◌, ◌*◌, ◌/◌, Bool, cond, ◌&&◌, ◌||◌, ltb, leb, eqb}
use Rattle.units.specs.Limits.{cores_limit}
use Rattle.units.specs.Units.{ticks}
use Rattle.planning.specs.declared.Line.{Line}
use Rattle.task_state.specs.declared.State.{State}
use Rattle.task_state.specs.State.{run_at}
use Rattle.task_state.specs.Due.{due_after}
use Rattle.task_state.specs.Key.{deadline_of, key_of}
use Rattle.release_times.specs.Times.{released_at}
use Rattle.run_lengths.specs.declared.Work.{Work}
use Rattle.run_lengths.specs.Work.{length_at}
use Rattle.fronts.specs.declared.Front.{Front}

-- what stands past the last task
abbrev pub no_front : Front
no_front = record { core = 0; release = ticks 0; key = 0; length = 0; run = 0; last = ticks 0; period = 0 }

-- a task's oldest unfinished run: core 0 for none
unfoldable pub front_of : Line → State → Work → Front
front_of ln st wk =
    let one = eqb st.live 0 in
    record {
      core = cond one 0 (run_at st 0).core;
      release = ticks (cond one 0 (released_at (due_after ln) (deadline_of st)));
      key = cond one 0 (key_of ln st (run_at st 0).core);
      length = length_at wk 0;
      run = wk.ended + 1;
      last = st.last;
      period = ln.period.0;
    }

-- it is on a core, and released at an instant
abbrev pub sees : Front → ℕ → Bool
sees f t = ltb 0 f.core && leb f.core cores_limit && leb f.release.0 t

-- the first of the instants last, last − T, last − 2T and so on that lies above t
abbrev pub next_up : ℕ → ℕ → ℕ → ℕ
next_up last period t = last - (last - t - 1) / period * period

-- the smaller of two numbers, the second at a tie
abbrev pub lesser : ℕ → ℕ → ℕ
lesser a b = cond (ltb a b) a b

-- a task's next release time ahead, where it is before an instant v
unfoldable pub ahead_of : Front → ℕ → ℕ → ℕ
ahead_of f t v = cond (leb f.last.0 t || eqb f.period 0) v (lesser (next_up f.last.0 f.period t) v)
