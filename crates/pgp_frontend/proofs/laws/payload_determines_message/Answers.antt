use Rattle.pgp_frontend.proofs.Readings.{payload_read}
use Rattle.pgp_frontend.proofs.laws.payload_determines_message.Goals as goal

pub returns : goal.returns
returns c = payload_read
