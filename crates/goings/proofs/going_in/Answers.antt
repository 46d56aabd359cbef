-- `goings::going_in` meets its contract.
use Prim.Native.Nat.{ℕ, ◌+◌, ◌*◌}
use mathlib.Core.Path.{◌≡◌, refl}
use mathlib.Core.List.{List}
use lib.ListN.{get_or}
use Rattle.goings.specs.Rows.{going_at}
use Rattle.goings.proofs.going_in.Goals as goal

-- its three numbers, one after the other
three : (xs : List ℕ) (p : ℕ)
    → record { task = get_or xs (3 * p) 0; run = get_or xs (3 * p + 1) 0; from = record { 0 = get_or xs (3 * p + 2) 0 } }
    ≡ going_at xs p
three xs p = refl

pub returns : goal.returns
returns c = three c.args.goings.now c.args.core
