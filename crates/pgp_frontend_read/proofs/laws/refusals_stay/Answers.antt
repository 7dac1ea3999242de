use Rattle.pgp_frontend_read.proofs.Refusals.{refusal_stays}
use Rattle.pgp_frontend_read.proofs.laws.refusals_stay.Goals as goal

pub returns : goal.returns
returns c = refusal_stays
