use Rattle.pgp_message_write.proofs.ReadBack.{formats_back}
use Rattle.pgp_message_write.proofs.laws.formats_are_read.Goals as goal

pub returns : goal.returns
returns c = formats_back
