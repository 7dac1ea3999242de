use Rattle.pgp_client.proofs.Timely.{sent_in_turns, true_in_turns}
use Rattle.pgp_client.proofs.laws.messages_belong_in_turns.Goals as goal

pub returns : goal.returns
returns c = record { belong = sent_in_turns; alone = true_in_turns }
