-- What holds of a task whose own refusals let a call pass.
use Prim.Native.Nat.{ℕ, ◌≤◌, ◌<◌}
use mathlib.Core.Path.{◌≡◌}
use mathlib.Core.Bool.{false, ◌||◌}
use native.Mathlib.Omega.{arith}
use borrow.Author.Tests.{eqb-false, ltb-false}
use lib.Dec.{ltb, eqb}
use Rattle.units.specs.Limits.{clock_limit, runs_limit}
use Rattle.lists.proofs.Tests.{by_cases, or_false_left}
use Rattle.planning.specs.declared.Line.{Line}
use Rattle.task_state.specs.declared.State.{State}
use Rattle.task_state.specs.State.{run_at}
use Rattle.task_state.specs.Due.{release_at, held}
use Rattle.task_state.specs.Tests.{release_tests, finish_tests}

module _ (ln : Line) (st : State) (t : ℕ) where
  module _ (e : release_tests ln st t ≡ 0) where
    -- a release's time is not above the clock's limit
    in_range : ltb clock_limit (release_at ln st t) ≡ false
    in_range = by_cases (ltb clock_limit (release_at ln st t)) (λ b. absurd (omega (arith, rw b at e))) (λ b. b)

    pub release_in : release_at ln st t ≤ clock_limit
    release_in = ltb-false clock_limit (release_at ln st t) in_range

    -- and it finds room for a run
    pub has_room : st.live ≤ runs_limit → st.live < runs_limit
    has_room h =
        by_cases (eqb st.live runs_limit)
        (λ b. absurd (omega (arith, rw (in_range, b) at e)))
        (λ b. omega (arith, eqb-false st.live runs_limit b))

  module _ (e : finish_tests ln st t ≡ 0) where
    -- a finish finds an oldest run that is not held
    found : (eqb st.live 0 || held ln (run_at st 0) t) ≡ false
    found = by_cases (eqb st.live 0 || held ln (run_at st 0) t) (λ b. absurd (omega (arith, rw b at e))) (λ b. b)

    pub has_run : 0 < st.live
    has_run = omega (arith, eqb-false st.live 0 (or_false_left (eqb st.live 0) (held ln (run_at st 0) t) found))
