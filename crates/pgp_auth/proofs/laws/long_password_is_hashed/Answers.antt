use Rattle.pgp_auth.proofs.LongKeys.{long_salted}
use Rattle.pgp_auth.proofs.laws.long_password_is_hashed.Goals as goal

pub returns : goal.returns
returns c = long_salted
