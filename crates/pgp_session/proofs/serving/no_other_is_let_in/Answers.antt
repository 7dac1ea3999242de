use Rattle.pgp_session.proofs.Served.{shown_at_last}
use Rattle.pgp_session.proofs.serving.no_other_is_let_in.Goals as goal

pub returns : goal.returns
returns g c = shown_at_last g.A.Memory.Lacks g.B.Buffer.Lacks
