use Rattle.pgp_message_write.proofs.Streams.{reply_taken}
use Rattle.pgp_message_write.proofs.laws.one_reply_is_taken.Goals as goal

pub returns : goal.returns
returns c = reply_taken
