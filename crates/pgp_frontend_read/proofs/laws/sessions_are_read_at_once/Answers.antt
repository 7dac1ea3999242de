use Rattle.pgp_frontend_read.proofs.Runs.{session_at_once}
use Rattle.pgp_frontend_read.proofs.laws.sessions_are_read_at_once.Goals as goal

pub returns : goal.returns
returns c = session_at_once
