use Rattle.pgp_auth.proofs.Reading.{identifier_once}
use Rattle.pgp_auth.proofs.laws.identifier_ends_once.Goals as goal

pub returns : goal.returns
returns c = identifier_once
