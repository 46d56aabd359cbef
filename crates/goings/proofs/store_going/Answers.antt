-- `goings::store_going` meets its contract.
use Prim.Native.Nat.{ℕ, ◌+◌, ◌*◌}
use mathlib.Core.Path.{◌≡◌}
use mathlib.Core.List.{List}
use lib.ListN.{set}
use Rattle.goings.specs.declared.Going.{Going}
use Rattle.goings.specs.Rows.{put_going}
use Rattle.goings.proofs.store_going.Goals as goal

-- its three numbers, one after the other
three : (xs : List ℕ) (p : ℕ) (g : Going) {a b d : List ℕ} → a ≡ set xs (3 * p) g.task → b ≡ set a (3 * p + 1) g.run
    → d ≡ set b (3 * p + 2) g.from.0 → d ≡ put_going xs p g
three xs p g e f h = rw (h, f, e)

pub returns : goal.returns
returns c =
    let s = c.args in
    three s.goings.now s.core s.going c.store.ensures c.store-2.ensures c.store-3.ensures
