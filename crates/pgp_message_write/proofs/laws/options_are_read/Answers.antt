use Rattle.pgp_message_write.proofs.ReadBack.{options_back}
use Rattle.pgp_message_write.proofs.laws.options_are_read.Goals as goal

pub returns : goal.returns
returns c = options_back
