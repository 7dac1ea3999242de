use Rattle.pgp_frontend_read.proofs.Pieces.{pieces_read}
use Rattle.pgp_frontend_read.proofs.laws.pieces_are_read_as_one.Goals as goal

pub returns : goal.returns
returns c = pieces_read
