use Rattle.pgp_client.proofs.Copyless.{copyless_ends}
use Rattle.pgp_client.proofs.laws.syncs_are_passed_over_in_copies_alone.Goals as goal

pub returns : goal.returns
returns c = copyless_ends
