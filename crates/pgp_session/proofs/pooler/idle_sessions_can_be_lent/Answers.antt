use Rattle.pgp_session.proofs.Lent.{lent}
use Rattle.pgp_session.proofs.pooler.idle_sessions_can_be_lent.Goals as goal

pub returns : goal.returns
returns c = lent c.idle_dialogues_await_nothing.ensures
