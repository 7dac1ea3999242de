use Rattle.pgp_client.proofs.Needed.{owed}
use Rattle.pgp_client.proofs.pool.busy_dialogues_owe.Goals as goal

pub returns : goal.returns
returns c = owed c.messages_belong_in_turns.ensures.belong
