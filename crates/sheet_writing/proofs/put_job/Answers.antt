-- `sheet_writing::put_job` meets its contract.
use Prim.Native.Nat.{◌*◌, ◌<◌}
use native.Mathlib.Omega.{arith}
use Rattle.writing.proofs.Wrote.{then}
use Rattle.sheet_writing.proofs.Sheet.{product_fits}
use Rattle.sheet_writing.proofs.put_job.Goals.{Start}
use Rattle.sheet_writing.proofs.put_job.Goals as goal

-- both products fit 64 bits
small : (s : Start) → (s.args.cost * s.args.tick < 18446744073709551616) × (s.args.period * s.args.tick < 18446744073709551616)
small s =
    let t : s.args.tick < 4294967296 = omega (arith, s.ranges.tick) in
    (product_fits _ _ (omega (arith, s.ranges.cost)) t, product_fits _ _ (omega (arith, s.ranges.period)) t)

pub overflow_mul-cost : goal.overflow_mul-cost
overflow_mul-cost c = omega (arith, small (goal.at.overflow_mul-cost c).Start)

pub overflow_mul-period : goal.overflow_mul-period
overflow_mul-period c =
    omega (arith, small (goal.at.overflow_mul-period c).Start)

pub returns-clause-wrote : goal.returns-clause-wrote
returns-clause-wrote c =
    then (then (then c.put_text-a.ensures c.put_field-b.ensures.wrote) c.put_field-c.ensures.wrote) c.put_byte.ensures

pub returns-clause-upper_bound : goal.returns-clause-upper_bound
returns-clause-upper_bound c =
    omega (arith, c.put_text-a.ensures.end, c.put_field-b.ensures.upper_bound, c.put_field-c.ensures.upper_bound, c.put_byte.ensures.end, c.requires.1)
