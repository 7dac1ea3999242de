use Rattle.pgp_frontend.proofs.Readings.{opening_read}
use Rattle.pgp_frontend.proofs.laws.opening_packets_begin_no_other.Goals as goal

pub returns : goal.returns
returns c = opening_read
