use Rattle.pgp_frontend_read.proofs.Runs.{session_read}
use Rattle.pgp_frontend_read.proofs.laws.sessions_are_read.Goals as goal

pub returns : goal.returns
returns c = session_read
