-- `dispatch::Record::call` meets its contract.
use Rattle.dispatch.proofs.OneCall.{release_mapped, finish_mapped, look_handed}
use Rattle.dispatch.proofs.Record.call.Goals as goal

pub returns-in-Release : goal.returns-in-Release
returns-in-Release c =
    release_mapped c.args.self c.in-Release.is c.release-answer.result.answer c.map-answer.result c.map-answer.ensures.cases c.release-answer.ensures

pub returns-in-Finish : goal.returns-in-Finish
returns-in-Finish c =
    finish_mapped c.args.self c.in-Finish.is c.finish-answer.result.answer c.map-answer-in-Finish.result c.map-answer-in-Finish.ensures.cases
    c.finish-answer.ensures

pub returns-in-Look : goal.returns-in-Look
returns-in-Look c =
    look_handed c.args.self c.in-Look.is c.look-answer.result.answer c.map-answer-in-Look.result c.map-answer-in-Look.ensures.cases c.look-answer.ensures
