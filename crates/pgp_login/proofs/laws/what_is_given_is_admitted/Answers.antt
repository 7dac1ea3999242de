use Rattle.pgp_login.proofs.Admissions.{plays_allowed}
use Rattle.pgp_login.proofs.laws.what_is_given_is_admitted.Goals as goal

pub returns : goal.returns
returns c = λ w gave observed s p. plays_allowed w p
