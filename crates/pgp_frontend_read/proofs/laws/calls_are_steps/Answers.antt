use Rattle.pgp_frontend_read.proofs.PieceRuns.{call_steps}
use Rattle.pgp_frontend_read.proofs.laws.calls_are_steps.Goals as goal

pub returns : goal.returns
returns g c = call_steps g.A.Memory.Lacks
