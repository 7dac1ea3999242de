use Rattle.pgp_message_write.proofs.ReadBack.{types_back}
use Rattle.pgp_message_write.proofs.laws.types_are_read.Goals as goal

pub returns : goal.returns
returns c = types_back
