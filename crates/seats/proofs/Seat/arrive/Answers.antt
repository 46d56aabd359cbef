-- `seats::Seat::arrive` meets its contract.
use Prim.Native.Nat.{ℕ}
use mathlib.Core.Path.{◌≡◌, refl, sym, ◌∙◌}
use mathlib.Core.Bool.{false}
use native.Mathlib.Omega.{arith}
use borrow.Author.Rules.{rules}
use Rattle.std.specs.declared.result.Result.{Result}
use Rattle.std.specs.declared.result.Result.TheVariants.{Ok, Err}
use Rattle.std.specs.Result.{is_err}
use Rattle.units.specs.declared.refusal.Reason.{Reason}
use Rattle.units.specs.Refusals.{number_said}
use Rattle.planning.specs.declared.Line.{Line}
use Rattle.task_state.specs.declared.State.{State}
use Rattle.task_state.specs.declared.runs.Taken.{Taken}
use Rattle.task_state.specs.Runs.{taken_run}
use Rattle.task_state.specs.Tests.{release_tests}
use Rattle.run_lengths.specs.declared.Work.{Work}
use Rattle.run_lengths.specs.Work.{with_length}
use Rattle.fronts.specs.declared.Front.{Front}
use Rattle.fronts.specs.Front.{front_of}
use Rattle.seats.specs.Seat.{seat, arrived_of, arrival_told}
use Rattle.seats.proofs.Seat.arrive.Goals.{Else-is_err}
use Rattle.seats.proofs.Seat.arrive.Goals as goal

-- an answer that is no refusal tells 0
no_refusal : (r : Result (Unit {0}) Reason) → is_err r ≡ false → number_said r ≡ 0
no_refusal (Ok x) e = refl
no_refusal (Err x) e = absurd (search rules)

-- a run that is taken as x, with its length among the others
taken : (ln : Line) (st : State) (wk : Work) (t n : ℕ) → release_tests ln st t ≡ 0 → (r : Result (Unit {0}) Reason) → number_said r ≡ release_tests ln st t
    → {x : Taken} → x ≡ taken_run ln st t → {more : Work} → more ≡ with_length wk st.live n → {f : Front} → f ≡ front_of ln x.state more
    → arrival_told (record { taken = r; seat = seat x.state more; front = f }) ≡ arrived_of ln st wk t n
unfolding taken_run arrived_of
taken ln st wk t n z r q p m e = rw (q, e, p, m, z)

-- an arrival whose answer is no refusal has passed its tests
passed : (c : Else-is_err) → let s = c.args in release_tests s.line s.self.state s.time.0 ≡ 0
passed c = omega (arith, no_refusal _ (sym c.is_err.ensures.value ∙ c.if-is_err.false))

pub with_run-requires : goal.with_run-requires
with_run-requires c = c.requires.can (passed (goal.at.with_run-requires c).Else-is_err)

pub returns : goal.returns
returns c =
    let s = c.args in
    let z = passed (goal.at.returns c).Else-is_err in
    taken s.line s.self.state s.self.work s.time.0 s.length z _ (omega arith) c.with_run.ensures c.with_run-more.ensures c.front_of-2.ensures
