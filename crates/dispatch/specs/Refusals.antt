-- Refusals of release, finish and look, in the order in which they are tested. Task and core numbers are from 1.
use Rattle.std.specs.Prelude.{ℕ, ◌-◌, cond, eqb}
use Rattle.units.specs.Refusals.{task_no, core_no}
use Rattle.call_tests.specs.Tests.{shared_tests}
use Rattle.task_state.specs.Tests.{release_tests, finish_tests}
use Rattle.dispatch.specs.declared.Record.{Record}
use Rattle.dispatch.specs.Record.{line_at, state_at}
use Rattle.dispatch.specs.Sound.{sound_of}

-- for a task: 15, 7, 12, 8
unfoldable pub task_tests : Record → ℕ → ℕ → ℕ
task_tests r i t = shared_tests (sound_of r) task_no r.plan.count i r.clock.0 t

-- a look, for a core: 15, 13, 12, 8
unfoldable pub look_refusal : Record → ℕ → ℕ → ℕ
look_refusal r k t = shared_tests (sound_of r) core_no r.plan.cores k r.clock.0 t

-- the first that applies to a release: 15, 7, 12, 8, 12 for its release time, 10
unfoldable pub release_refusal : Record → ℕ → ℕ → ℕ
release_refusal r i t = cond (eqb (task_tests r i t) 0) (release_tests (line_at r (i - 1)) (state_at r (i - 1)) t) (task_tests r i t)

-- to a finish: 15, 7, 12, 8, 11
unfoldable pub finish_refusal : Record → ℕ → ℕ → ℕ
finish_refusal r i t = cond (eqb (task_tests r i t) 0) (finish_tests (line_at r (i - 1)) (state_at r (i - 1)) t) (task_tests r i t)
