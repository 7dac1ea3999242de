use Rattle.pgp_client.proofs.Examples.{lent}
use Rattle.pgp_client.proofs.pool.connections_are_lent.Goals as goal

pub returns : goal.returns
returns c = lent
