use Rattle.pgp_client.proofs.Ends.{before_ended}
use Rattle.pgp_client.proofs.laws.answers_end_all_before.Goals as goal

pub returns : goal.returns
returns c = before_ended
