use Rattle.pgp_auth.proofs.Reading.{literal_once}
use Rattle.pgp_auth.proofs.laws.literal_ends_once.Goals as goal

pub returns : goal.returns
returns c = literal_once
