use Rattle.pgp_login.specs.Face.{state_of, ways_of}
use Rattle.for_c_auth.proofs.Runs.{talks}
use Rattle.for_c_auth.proofs.connection_laws.answers_belong_to_their_requests.Goals as goal

pub returns-clause-belong : goal.returns-clause-belong
returns-clause-belong c = λ w gave heard turns now run. c.sessions_follow.ensures.belong (ways_of w) gave heard turns now.talk (state_of now.login) (talks w run)

pub returns-clause-alone : goal.returns-clause-alone
returns-clause-alone c = λ w gave heard turns now truth run belongs. c.sessions_follow.ensures.alone (ways_of w) gave heard turns now.talk (state_of now.login) truth (talks w run) belongs
