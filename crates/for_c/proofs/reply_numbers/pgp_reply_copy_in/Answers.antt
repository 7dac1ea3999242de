use Rattle.for_c.proofs.Common.{rules, CopyInResponse, formats_of, formats_cause}
use Rattle.pgp_message_write.specs.Reply.{bytes_of}
use Rattle.for_c.proofs.NeverMemory.{never_formats}
use Rattle.for_c.proofs.Replies.{refused_ended, sent_ended}
use Rattle.for_c.proofs.reply_numbers.pgp_reply_copy_in.Goals as goal

pub returns-clause-sent : goal.returns-clause-sent
returns-clause-sent c z =
    sent_ended (bytes_of (CopyInResponse (formats_of c.args.format c.args.column_formats.now))) c.new-window.result c.copy_in_response-answer.new.buf c.args.out.now _ c.new-window.ensures (formats_cause c.args.format c.args.column_formats.now) c.copy_in_response-answer.result c.copy_in_response-answer.ensures _ (search rules) _ (c.ended.ensures.sent z)

pub returns-clause-refused : goal.returns-clause-refused
returns-clause-refused c z =
    refused_ended (bytes_of (CopyInResponse (formats_of c.args.format c.args.column_formats.now))) c.new-window.result c.copy_in_response-answer.new.buf c.args.out.now _ c.new-window.ensures (formats_cause c.args.format c.args.column_formats.now) (never_formats c.args.format c.args.column_formats.now) c.copy_in_response-answer.result c.copy_in_response-answer.ensures _ _ (c.ended.ensures.refused z)
