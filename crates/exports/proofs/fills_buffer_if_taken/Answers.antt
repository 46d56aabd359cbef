-- `exports::fills_buffer_if_taken` meets its contract.
use mathlib.Core.Path.{refl}
use Rattle.std.proofs.Common.{inl, inr}
use Rattle.exports.proofs.fills_buffer_if_taken.Goals as goal

-- the length is stored that the call gives
pub returns-in-Ok : goal.returns-in-Ok
returns-in-Ok g c = inl (_, _, c.in-Ok.length, refl, refl, c.in-Ok.ensures, c.convert.ensures, refl)

-- the refusal's number is answered
pub returns-in-Err : goal.returns-in-Err
returns-in-Err g c = inr (_, _, c.in-Err.refused, refl, refl, c.in-Err.ensures, c.number.ensures, refl)
