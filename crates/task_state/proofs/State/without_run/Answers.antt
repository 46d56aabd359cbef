-- `task_state::State::without_run` meets its contract.
use Prim.Native.Nat.{ℕ, ◌-◌}
use mathlib.Core.Path.{◌≡◌, ◌∙◌}
use mathlib.Core.List.{List, [], ◌∷◌, ◌++◌}
use native.Mathlib.Omega.{arith}
use borrow.Author.Rules.{rules}
use lib.ListN.{length, drop}
use Rattle.units.specs.declared.ticks.Ticks.{Ticks}
use Rattle.units.specs.Limits.{runs_limit}
use Rattle.units.specs.Units.{ticks}
use Rattle.lists.proofs.Moved.{moved_up}
use Rattle.task_state.specs.declared.State.{State}
use Rattle.task_state.specs.Runs.{without_run}
use Rattle.task_state.proofs.Oldest.{deadlines_long}
use Rattle.task_state.proofs.State.without_run.Goals as goal

-- the task without its oldest run
run_ended : (st : State) (ds : List Ticks) (cs : List ℕ) → ds ≡ drop 1 st.deadlines ++ (ticks 0 ∷ []) → cs ≡ drop 1 st.cores ++ (0 ∷ [])
    → record { last = st.last; deadlines = ds; counts = st.counts; place = st.place; cores = cs; live = st.live - 1; had = st.had } ≡ without_run st
unfolding without_run
run_ended st ds cs d k = rw (d, k)

pub returns : goal.returns
returns c =
    let st = c.args.self in
    let due : length st.deadlines ≡ runs_limit = search (rules, deadlines_long) in
    let on : length st.cores ≡ runs_limit = search rules in
    run_ended st _ _
    (c.rotate_left.ensures.after ∙ moved_up st.deadlines (ticks 0) (omega arith))
    (c.rotate_left-2.ensures.after ∙ moved_up st.cores 0 (omega arith))
