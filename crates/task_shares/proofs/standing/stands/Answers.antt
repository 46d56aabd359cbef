-- `task_shares::standing::stands` meets its contract: no share, and a mover's first core. The other answers are found.
use Prim.Native.Nat.{◌<◌}
use mathlib.Core.Path.{◌≡◌, refl}
use mathlib.Core.Bool.{true}
use native.Mathlib.Omega.{arith}
use borrow.Author.Tests.{lt-ltb, le-ltb, eq-eqb}
use Rattle.std.proofs.Common.{rules}
use Rattle.task_shares.proofs.standing.stands.Goals as goal

pub returns-then-share-eq0 : goal.returns-then-share-eq0
returns-then-share-eq0 c = rw (le-ltb 0 c.args.share.0 (omega arith)) refl

pub returns-then-first-core : goal.returns-then-first-core
returns-then-first-core c =
    let s = c.args in
    let some : 0 < s.share.0 = omega arith in
    let moves : s.moves ≡ true = search rules in
    rw (lt-ltb 0 s.share.0 some, moves, eq-eqb s.first s.core c.if-first-core.true) refl
