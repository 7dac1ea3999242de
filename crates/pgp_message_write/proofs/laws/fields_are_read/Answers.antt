use Rattle.pgp_message_write.proofs.ReadBack.{fields_back}
use Rattle.pgp_message_write.proofs.laws.fields_are_read.Goals as goal

pub returns : goal.returns
returns c = fields_back
