-- `tick_length::hold` meets its contract.
use Prim.Native.Nat.{ℕ, ◌<◌}
use mathlib.Core.Path.{◌≡◌, sym, ◌∙◌}
use native.Mathlib.Omega.{arith}
use Rattle.std.proofs.Common.{Result, Ok, Err}
use Rattle.std.specs.Result.{OkIff, result_unwrap_or}
use Rattle.tick_length.specs.Inner.{held}
use Rattle.tick_length.proofs.NoneLost.{held_small, held_large}
use Rattle.tick_length.proofs.hold.Goals as goal

-- a number where it fits, and else the largest
held_by : {E : Type 0} (n : ℕ) (r : Result ℕ E) {x : ℕ} → OkIff r (n < 4294967296) n → x ≡ result_unwrap_or r 4294967295 → x ≡ held n
held_by n (Ok y) h e = e ∙ h.1 ∙ sym (held_small n h.0)
held_by n (Err y) h e = e ∙ sym (held_large n (omega arith))

pub returns : goal.returns
returns c = held_by c.args.n _ c.try_from.ensures c.unwrap_or.ensures
