use Rattle.for_c.proofs.Common.{rules, types_of, types_cause}
use Rattle.pgp_message_write.specs.Reply.{bytes_of}
use Rattle.for_c.proofs.NeverMemory.{never_types}
use Rattle.for_c.proofs.Replies.{refused_ended, sent_ended}
use Rattle.for_c.proofs.reply_numbers.pgp_reply_parameter_description.Goals as goal

pub returns-clause-sent : goal.returns-clause-sent
returns-clause-sent c z =
    sent_ended (bytes_of (types_of c.args.types.now)) c.new-window.result c.parameter_description-answer.new.buf c.args.out.now _ c.new-window.ensures (types_cause c.args.types.now) c.parameter_description-answer.result c.parameter_description-answer.ensures _ (search rules) _ (c.ended.ensures.sent z)

pub returns-clause-refused : goal.returns-clause-refused
returns-clause-refused c z =
    refused_ended (bytes_of (types_of c.args.types.now)) c.new-window.result c.parameter_description-answer.new.buf c.args.out.now _ c.new-window.ensures (types_cause c.args.types.now) (never_types c.args.types.now) c.parameter_description-answer.result c.parameter_description-answer.ensures _ _ (c.ended.ensures.refused z)
