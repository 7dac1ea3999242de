use Rattle.pgp_base.proofs.Errors.{same_number}
use Rattle.pgp_base.proofs.laws.numbers_differ.Goals as goal

pub returns : goal.returns
returns c = same_number
