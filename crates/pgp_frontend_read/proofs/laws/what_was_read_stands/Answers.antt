use Rattle.pgp_frontend_read.proofs.Runs.{read_stays}
use Rattle.pgp_frontend_read.proofs.laws.what_was_read_stands.Goals as goal

pub returns : goal.returns
returns c = read_stays
