use Rattle.pgp_frontend_read.proofs.ForwardRuns.{session_forwards}
use Rattle.pgp_frontend_read.proofs.laws.sessions_are_forwarded.Goals as goal

pub returns : goal.returns
returns g c = session_forwards g.B.Buffer.Lacks
