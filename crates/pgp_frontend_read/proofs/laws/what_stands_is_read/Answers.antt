use Rattle.pgp_frontend_read.proofs.Runs.{stands_read}
use Rattle.pgp_frontend_read.proofs.laws.what_stands_is_read.Goals as goal

pub returns : goal.returns
returns c = stands_read
