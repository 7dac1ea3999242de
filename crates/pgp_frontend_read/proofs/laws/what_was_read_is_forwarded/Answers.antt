use Rattle.pgp_frontend_read.proofs.Rewritten.{read_forwards}
use Rattle.pgp_frontend_read.proofs.laws.what_was_read_is_forwarded.Goals as goal

pub returns : goal.returns
returns g c = λ kind before after m old new result step w. read_forwards g.B.Buffer.Lacks m old new kind before after result step w
