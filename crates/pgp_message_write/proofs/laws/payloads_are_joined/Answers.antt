use Rattle.pgp_message_write.proofs.Payloads.{payload_is}
use Rattle.pgp_message_write.proofs.laws.payloads_are_joined.Goals as goal

pub returns : goal.returns
returns c = payload_is
