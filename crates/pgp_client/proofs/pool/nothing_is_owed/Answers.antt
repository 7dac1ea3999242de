use Rattle.pgp_client.proofs.Owed.{none_owed}
use Rattle.pgp_client.proofs.pool.nothing_is_owed.Goals as goal

pub returns : goal.returns
returns c = none_owed
