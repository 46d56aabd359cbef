-- `fronts::front_of` meets its contract.
use Prim.Native.Nat.{◌+◌}
use mathlib.Core.Path.{◌≡◌}
use lib.ListN.{get_or}
use Rattle.planning.specs.declared.Line.{Line}
use Rattle.task_state.specs.declared.State.{State}
use Rattle.run_lengths.specs.declared.Work.{Work}
use Rattle.fronts.specs.Front.{front_of}
use Rattle.fronts.proofs.front_of.Goals as goal

-- of a task without a run
none : (ln : Line) (st : State) (wk : Work) → st.live ≡ 0
    → record { core = 0; release = record { 0 = 0 }; key = 0; length = get_or wk.lengths 0 0; run = wk.ended + 1; last = st.last; period = ln.period.0 }
    ≡ front_of ln st wk
unfolding front_of
none ln st wk e = rw e

pub returns-then-state-eq0 : goal.returns-then-state-eq0
returns-then-state-eq0 c = let s = c.args in none s.line s.state s.work c.if-state-eq0.true
