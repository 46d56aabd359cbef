-- `seats::Seat::end` meets its contract.
use Prim.Native.Nat.{ℕ}
use mathlib.Core.Path.{◌≡◌}
use lib.IntN.{ℤ, sub_ℕ}
use Rattle.arith.proofs.Signed.{sub_is}
use Rattle.planning.specs.declared.Line.{Line}
use Rattle.task_state.specs.declared.State.{State}
use Rattle.task_state.specs.Runs.{without_run}
use Rattle.task_state.specs.Key.{deadline_of}
use Rattle.run_lengths.specs.declared.Work.{Work}
use Rattle.run_lengths.specs.Work.{without_length}
use Rattle.fronts.specs.declared.Front.{Front}
use Rattle.fronts.specs.Front.{front_of}
use Rattle.fronts.specs.Inner.{Frontable}
use Rattle.seats.specs.Seat.{seat, ended_of}
use Rattle.seats.specs.Inner.{Endable}
use Rattle.seats.proofs.Seat.end.Goals as goal

-- the oldest run ended: what is left of the task, and of its lengths
module _ (ln : Line) (st : State) (wk : Work) (t : ℕ) {after : State} {less : Work} (p : after ≡ without_run st) (m : less ≡ without_length wk) where
  can_show : Endable ln st wk t → Frontable ln after less
  can_show h = rw (p, m) h.then

  ended : {late : ℤ} {f : Front} → late ≡ sub_ℕ t (deadline_of st) → f ≡ front_of ln after less
      → record { late = late; seat = seat after less; front = f } ≡ ended_of ln st wk t
  unfolding ended_of
  ended q e = rw (q, e, p, m)

pub front_of-requires : goal.front_of-requires
front_of-requires c =
    let a = c.args in
    can_show a.line a.self.state a.self.work a.time.0 c.without_run-after.ensures c.without_run-less.ensures c.requires

pub returns : goal.returns
returns c =
    let a = c.args in
    let late = sub_is _ _ c.requires.time c.requires.due in
    ended a.line a.self.state a.self.work a.time.0 c.without_run-after.ensures c.without_run-less.ensures late c.front_of.ensures
