-- A plan's own numbers, as facts.
use Prim.Native.Nat.{◌≤◌, ◌<◌}
use mathlib.Core.Path.{◌≡◌}
use mathlib.Core.Bool.{true, ◌&&◌}
use lib.Dec.{leb}
use borrow.Author.Tests.{leb-true}
use Rattle.units.specs.Limits.{cores_limit, tasks_limit, common_limit}
use Rattle.lists.proofs.Tests.{and_left, and_right}
use Rattle.planning.specs.declared.Plan.{Plan}
use Rattle.soundness.specs.Rules.{numbers_in}

-- cores, tasks and the common period in their ranges
pub record Numbers (pl : Plan) : Type 0 where
  pub cores_some : 0 < pl.cores
  pub cores_few : pl.cores ≤ cores_limit
  pub count_some : 0 < pl.count
  pub count_few : pl.count ≤ tasks_limit
  pub common_some : 0 < pl.common
  pub common_small : pl.common ≤ common_limit

-- the rule says them
pub numbers : (pl : Plan) → numbers_in pl ≡ true → Numbers pl
numbers pl e =
    let a = leb 1 pl.cores in
    let b = leb pl.cores cores_limit in
    let c = leb 1 pl.count in
    let d = leb pl.count tasks_limit in
    let f = leb 1 pl.common in
    let g = leb pl.common common_limit in
    let e₅ = and_left (a && b && c && d && f) g e in
    let e₄ = and_left (a && b && c && d) f e₅ in
    let e₃ = and_left (a && b && c) d e₄ in
    let e₂ = and_left (a && b) c e₃ in
    record {
      cores_some = leb-true 1 pl.cores (and_left a b e₂);
      cores_few = leb-true pl.cores cores_limit (and_right a b e₂);
      count_some = leb-true 1 pl.count (and_right (a && b) c e₃);
      count_few = leb-true pl.count tasks_limit (and_right (a && b && c) d e₄);
      common_some = leb-true 1 pl.common (and_right (a && b && c && d) f e₅);
      common_small = leb-true pl.common common_limit (and_right (a && b && c && d && f) g e);
    }
