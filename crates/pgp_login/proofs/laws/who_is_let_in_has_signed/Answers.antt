use Rattle.pgp_login.proofs.Admissions.{plays_admitted}
use Rattle.pgp_login.proofs.laws.who_is_let_in_has_signed.Goals as goal

pub returns : goal.returns
returns c = λ w gave observed p. plays_admitted w p
