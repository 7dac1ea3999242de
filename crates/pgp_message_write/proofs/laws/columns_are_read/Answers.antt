use Rattle.pgp_message_write.proofs.ReadBack.{columns_back}
use Rattle.pgp_message_write.proofs.laws.columns_are_read.Goals as goal

pub returns : goal.returns
returns c = columns_back
