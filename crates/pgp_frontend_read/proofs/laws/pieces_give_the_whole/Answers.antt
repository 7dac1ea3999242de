use Rattle.pgp_frontend_read.proofs.PieceRuns.{whole_given}
use Rattle.pgp_frontend_read.proofs.laws.pieces_give_the_whole.Goals as goal

pub returns : goal.returns
returns g c = whole_given g.A.Memory.Lacks
