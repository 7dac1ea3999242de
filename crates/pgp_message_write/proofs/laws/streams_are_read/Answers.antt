use Rattle.pgp_message_write.proofs.Streams.{replies_run}
use Rattle.pgp_message_write.proofs.laws.streams_are_read.Goals as goal

pub returns : goal.returns
returns c = replies_run
