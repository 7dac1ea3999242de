use Rattle.pgp_client.proofs.Ends.{ended_once, ended_silent, turn_ends}
use Rattle.pgp_client.proofs.laws.every_request_ends_once.Goals as goal

pub returns : goal.returns
returns c = record { once = ended_once; by = turn_ends; silent = ended_silent }
