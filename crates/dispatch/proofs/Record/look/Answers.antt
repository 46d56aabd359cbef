-- `dispatch::Record::look` meets its contract.
use Rattle.dispatch.proofs.OneCall.{look_mapped}
use Rattle.dispatch.proofs.Record.look.Goals as goal

pub returns : goal.returns
returns c =
    let s = c.args in
    look_mapped s.self s.core s.time.0 _ c.look_in_numbers-answer.result.answer c.map.result c.map.ensures.cases c.look_in_numbers-answer.ensures
