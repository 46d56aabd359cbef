-- `turn::turn_of` meets its contract.
use mathlib.Core.Path.{◌≡◌, sym, ap, ◌∙◌}
use native.Mathlib.Numerals.{add-one}
use native.Mathlib.Omega.{arith}
use Rattle.units.specs.Limits.{cores_limit}
use Rattle.units.specs.Units.{nums}
use Rattle.units.proofs.Units.{nums_long, nums_at}
use Rattle.turn.specs.declared.Best.{Best}
use Rattle.turn.specs.Turn.{core_of, counted, turn_of}
use Rattle.turn.proofs.Search.{search_next, search_end}
use Rattle.turn.proofs.Choice.{turn_choice}
use Rattle.turn.proofs.turn_of.Goals.{After-loop-j}
use Rattle.turn.proofs.turn_of.Goals as goal

-- the core found is that of the definition
core_is : (c : After-loop-j)
    → let a = c.args in c.loop-j.best.core ≡ core_of a.weight.0 a.place (nums a.shares) a.counts
unfolding core_of
core_is c =
    let a = c.args in
    let at = c.loop-j in
    let long = nums_long a.shares cores_limit (omega arith) in
    ap (λ (b : Best). b.core) (sym (search_end a.weight.0 a.place at.j at.best (nums a.shares) a.counts (omega arith)) ∙ at.invariant)

pub loop-j-preserved : goal.loop-j-preserved
loop-j-preserved c =
    let a = c.args in
    let at = c.loop-j in
    let long = nums_long a.shares cores_limit (omega arith) in
    rw (c.better_core-best.ensures, ← (nums_at a.shares at.j), add-one at.j)
    (sym (search_next a.weight.0 a.place at.j at.best (nums a.shares) a.counts (omega arith) (omega arith)) ∙ at.invariant)

pub counted-requires : goal.counted-requires
counted-requires c =
    let a = c.args in
    let f = turn_choice a.weight.0 a.place (nums a.shares) a.counts c.requires (nums_long a.shares cores_limit (omega arith)) (omega arith) in
    let e = core_is c in
    (omega arith, omega (arith, f.2.within), c.requires.below, c.requires.counts)

pub returns : goal.returns
unfolding turn_of
returns c = c.counted.ensures ∙ ap (counted _ _ _) (core_is (goal.at.returns c).After-loop-j)
