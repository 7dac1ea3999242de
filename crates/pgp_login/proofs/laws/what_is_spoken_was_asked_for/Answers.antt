use Rattle.pgp_login.proofs.Speaking.{packet_spoken, spoken_after}
use Rattle.pgp_login.proofs.laws.what_is_spoken_was_asked_for.Goals as goal

pub returns-clause-packet : goal.returns-clause-packet
returns-clause-packet c = packet_spoken

pub returns-clause-answered : goal.returns-clause-answered
returns-clause-answered c = spoken_after
