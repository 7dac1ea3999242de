use Rattle.pgp_frontend_read.proofs.PieceRuns.{session_in_pieces}
use Rattle.pgp_frontend_read.proofs.laws.pieces_of_sessions_are_read.Goals as goal

pub returns : goal.returns
returns g c = session_in_pieces g.A.Memory.Lacks
