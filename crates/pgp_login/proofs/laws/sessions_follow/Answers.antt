use Rattle.pgp_login.proofs.Admissions.{plays_admitted, plays_allowed}
use Rattle.pgp_login.proofs.Dialogues.{follows, plays}
use Rattle.pgp_login.proofs.laws.sessions_follow.Goals as goal

pub returns-clause-belong : goal.returns-clause-belong
returns-clause-belong c = λ w gave observed turns t s p. c.messages_belong_in_turns.ensures.belong turns (follows w p)

pub returns-clause-alone : goal.returns-clause-alone
returns-clause-alone c = λ w gave observed turns t s truth p belongs. c.messages_belong_in_turns.ensures.alone turns truth (follows w p) belongs

pub returns-clause-allowed : goal.returns-clause-allowed
returns-clause-allowed c = λ w gave observed turns t s p. plays_allowed w (plays w p)

pub returns-clause-admitted : goal.returns-clause-admitted
returns-clause-admitted c = λ w gave observed turns t p. plays_admitted w (plays w p)
