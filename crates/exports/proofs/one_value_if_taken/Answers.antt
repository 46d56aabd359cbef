-- `exports::one_value_if_taken` meets its contract.
use mathlib.Core.Path.{refl}
use Rattle.std.proofs.Common.{inl}
use Rattle.exports.proofs.Taken.{taken}
use Rattle.exports.proofs.one_value_if_taken.Goals as goal

-- the value is stored that the call gives
pub returns-in-Ok : goal.returns-in-Ok
returns-in-Ok g c =
    let promise = g.G.Fn.post c.args.g.now (c.args.held.now, (c.args.a, (c.args.b, tt))) in
    inl (taken promise c.g-answer.result c.in-Ok.value _ c.g-answer.ensures c.in-Ok.is refl, refl)
