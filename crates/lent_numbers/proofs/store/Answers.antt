-- `lent_numbers::store` meets its contract.
use mathlib.Core.Path.{refl}
use native.Mathlib.Omega.{arith}
use Rattle.lent_numbers.proofs.store.Goals as goal

pub bounds-numbers-at : goal.bounds-numbers-at
bounds-numbers-at g c = omega arith

pub returns-then-at-numbers : goal.returns-then-at-numbers
returns-then-at-numbers g c = refl
