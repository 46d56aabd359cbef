-- `front_rows::front_in` meets its contract.
use Prim.Native.Nat.{ℕ, ◌+◌, ◌*◌}
use mathlib.Core.Path.{◌≡◌, refl}
use mathlib.Core.List.{List}
use lib.ListN.{get_or}
use Rattle.front_rows.specs.Rows.{front_at}
use Rattle.front_rows.proofs.front_in.Goals as goal

-- its seven numbers, one after the other
seven : (xs : List ℕ) (i : ℕ)
    → record {
      core = get_or xs (7 * i) 0;
      release = record { 0 = get_or xs (7 * i + 1) 0 };
      key = get_or xs (7 * i + 2) 0;
      length = get_or xs (7 * i + 3) 0;
      run = get_or xs (7 * i + 4) 0;
      last = record { 0 = get_or xs (7 * i + 5) 0 };
      period = get_or xs (7 * i + 6) 0;
    }
    ≡ front_at xs i
seven xs i = refl

pub returns : goal.returns
returns c = seven c.args.fronts.now c.args.i
