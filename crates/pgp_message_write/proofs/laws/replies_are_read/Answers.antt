use Rattle.pgp_message_write.proofs.Payloads.{read_back, payload_is}
use Rattle.pgp_message_write.proofs.laws.replies_are_read.Goals as goal

pub returns : goal.returns
returns c = λ m r cause. read_back m (payload_is m) r cause
