use Rattle.pgp_login.specs.Face.{ways_of}
use Rattle.for_c_auth.proofs.Runs.{talks_done}
use Rattle.for_c_auth.proofs.connection_laws.who_is_let_in_has_signed.Goals as goal

pub returns : goal.returns
returns c = λ w gave heard turns now run is. c.sessions_follow.ensures.admitted (ways_of w) gave heard turns now.talk (talks_done w run is)
