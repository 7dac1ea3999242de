use Rattle.pgp_message_write.proofs.ReadBack.{mechanisms_back}
use Rattle.pgp_message_write.proofs.laws.mechanisms_are_read.Goals as goal

pub returns : goal.returns
returns c = mechanisms_back
