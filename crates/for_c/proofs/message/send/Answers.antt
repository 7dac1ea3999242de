use Rattle.for_c.proofs.Common.{rules, message_of}
use Rattle.for_c.proofs.Sending.{sends_ended, refuses_ended}
use Rattle.for_c.proofs.message.send.Goals as goal

pub returns-clause-sent : goal.returns-clause-sent
returns-clause-sent c z =
    sends_ended (message_of c.args.message) c.new-window.result c.append-answer.new.buf c.args.out.now _ c.new-window.ensures c.append-answer.result c.append-answer.ensures _ (search rules) _ (c.ended.ensures.sent z)

pub returns-clause-refused : goal.returns-clause-refused
returns-clause-refused c z =
    refuses_ended (message_of c.args.message) c.new-window.result c.append-answer.new.buf c.args.out.now _ c.new-window.ensures c.append-answer.result c.append-answer.ensures _ _ (c.ended.ensures.refused z)
