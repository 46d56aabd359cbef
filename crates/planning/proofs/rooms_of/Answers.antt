-- `planning::rooms_of` meets its contract.
use Prim.Native.Nat.{◌-◌}
use mathlib.Core.Path.{◌≡◌, refl}
use mathlib.Core.List.{List, map-append}
use native.Mathlib.Omega.{arith}
use lib.ListN.{length, take, replicate}
use Rattle.std.proofs.lemmas.List.{drop-replicate, length-take-le}
use Rattle.units.specs.Limits.{cores_limit}
use Rattle.units.specs.Units.{share}
use Rattle.units.specs.declared.share.Share.{Share}
use Rattle.units.proofs.Units.{nums_replicate}
use Rattle.planning.proofs.rooms_of.Goals as goal

pub returns : goal.returns
returns c =
    let m = c.args.cores in
    let blank : List Share = replicate cores_limit (share 0) in
    let long : length (take m blank) ≡ m = length-take-le m blank (omega arith) in
    rw (
      c.fill.ensures.after (λ y e. e),
      long,
      drop-replicate m cores_limit (share 0),
      map-append,
      nums_replicate m c.args.common,
      nums_replicate (cores_limit - m) 0,
    ) refl
