use Rattle.pgp_client.proofs.Before.{answered_idle}
use Rattle.pgp_client.proofs.laws.answered_dialogues_are_idle.Goals as goal

pub returns : goal.returns
returns c = answered_idle
