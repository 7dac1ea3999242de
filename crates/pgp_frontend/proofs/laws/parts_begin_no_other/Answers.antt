use Rattle.pgp_frontend.proofs.Shapes.{part_begins}
use Rattle.pgp_frontend.proofs.laws.parts_begin_no_other.Goals as goal

pub returns : goal.returns
returns c = part_begins
