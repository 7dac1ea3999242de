use Rattle.pgp_auth.proofs.Refusals.{same_number}
use Rattle.pgp_auth.proofs.laws.numbers_differ.Goals as goal

pub returns : goal.returns
returns c = same_number
