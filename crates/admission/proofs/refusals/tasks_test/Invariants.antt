-- `admission::refusals::tasks_test` meets its contract: the tasks that are left give the answer of the whole table.
use Prim.Native.Nat.{◌+◌, ◌*◌}
use mathlib.Core.Path.{◌≡◌}
use lib.ListN.{drop}
use Rattle.admission.specs.Refusals.{tasks_test}
use Rattle.admission.proofs.refusals.tasks_test.Given as goal

abbrev pub invariant-loop-k : goal.invariant-loop-k
invariant-loop-k l = tasks_test (l.k + 1) (drop (2 * l.k) l.table) ≡ tasks_test 1 l.table
