use Rattle.for_c.proofs.Common.{rules, reply_of}
use Rattle.for_c.proofs.Replies.{not_replied, replied}
use Rattle.for_c.proofs.reply.send.Goals as goal

pub returns-clause-sent : goal.returns-clause-sent
returns-clause-sent c z =
    replied (reply_of c.args.reply) c.new-window.result c.put-answer.new.buf c.args.out.now _ c.new-window.ensures c.put-answer.result c.put-answer.ensures _ (search rules) _ (c.ended.ensures.sent z)

pub returns-clause-refused : goal.returns-clause-refused
returns-clause-refused c z =
    not_replied (reply_of c.args.reply) c.new-window.result c.put-answer.new.buf c.args.out.now _ c.new-window.ensures c.put-answer.result c.put-answer.ensures _ _ (c.ended.ensures.refused z)
