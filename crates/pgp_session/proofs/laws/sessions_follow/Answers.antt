use Rattle.pgp_session.proofs.Sessions.{follows}
use Rattle.pgp_session.proofs.laws.sessions_follow.Goals as goal

pub returns : goal.returns
returns c = λ ways h now.
    let law = c.sessions_follow.ensures in
    follows ways h now c.only_answers_are_taken.ensures.in_turns (law.belong ways) (law.alone ways) (law.allowed ways) (law.admitted ways)
