-- `soundness::sums::Sums::with_mover` meets its contract: the mover is counted on its first core, and the cores below p have its share.
use Prim.Native.Nat.{◌<◌}
use mathlib.Core.Path.{◌≡◌}
use native.Mathlib.Omega.{arith}
use lib.ListN.{length}
use borrow.Author.Rules.{rules}
use Rattle.units.specs.Limits.{cores_limit}
use Rattle.units.specs.Units.{nums}
use Rattle.units.proofs.Units.{nums_long}
use Rattle.soundness.proofs.Added.{first_there}
use Rattle.soundness.proofs.Passed.{load_fits, mover_done}
use Rattle.soundness.proofs.sums.Sums.with_mover.Goals.{After-first_core}
use Rattle.soundness.proofs.sums.Sums.with_mover.Goals as goal

first-low : (c : After-first_core) → c.first_core.result < cores_limit
first-low c =
    let row = c.args.shares in
    let l : length row ≡ cores_limit = search rules in
    omega (arith, c.first_core.ensures, first_there (nums row) c.requires.3, nums_long row cores_limit l)

pub bounds-sums-first_core : goal.bounds-sums-first_core
bounds-sums-first_core c = let h = first-low c in search rules

pub bounds-sums-first_core-2 : goal.bounds-sums-first_core-2
bounds-sums-first_core-2 c = let h = first-low (goal.at.bounds-sums-first_core-2 c).After-first_core in search rules

pub overflow_add-sums-in-loop-p : goal.overflow_add-sums-in-loop-p
overflow_add-sums-in-loop-p c =
    omega (arith, load_fits c.args.shares c.args.self _ _ c.loop-p.invariant.loads (omega arith) c.requires.0 (omega (arith, c.requires.1, c.requires.2)))

pub returns : goal.returns
returns c =
    let e : c.loop-p.p ≡ cores_limit = omega arith in
    mover_done c.args.shares c.args.self _ (rw (← c.first_core.ensures, c.requires.1) (rw e at c.loop-p.invariant)) c.requires.3
    (let long : length c.args.self.firsts ≡ cores_limit = search rules in omega
    (arith, c.first_core.ensures, first-low (goal.at.returns c).After-first_core))

pub offset_bounds-sums-first_core : goal.offset_bounds-sums-first_core
offset_bounds-sums-first_core c = omega (arith, first-low c)
