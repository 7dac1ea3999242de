use Rattle.pgp_client.proofs.Homes.{stands_behind}
use Rattle.pgp_client.proofs.pool.what_comes_behind_stands_alone.Goals as goal

pub returns : goal.returns
returns c = stands_behind
