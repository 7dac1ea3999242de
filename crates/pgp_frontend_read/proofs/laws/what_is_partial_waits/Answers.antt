use Rattle.pgp_frontend_read.proofs.Refusals.{partial_waits}
use Rattle.pgp_frontend_read.proofs.laws.what_is_partial_waits.Goals as goal

pub returns : goal.returns
returns c = partial_waits
