use Rattle.pgp_client.proofs.Before.{asked_before}
use Rattle.pgp_client.proofs.laws.answers_follow_their_requests.Goals as goal

pub returns : goal.returns
returns c = asked_before
