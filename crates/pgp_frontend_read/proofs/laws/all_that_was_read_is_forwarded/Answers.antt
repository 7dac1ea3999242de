use Rattle.pgp_frontend_read.proofs.ForwardRuns.{run_forwards}
use Rattle.pgp_frontend_read.proofs.laws.all_that_was_read_is_forwarded.Goals as goal

pub returns : goal.returns
returns g c = run_forwards g.B.Buffer.Lacks
