use Rattle.pgp_auth.proofs.Once.{signs_once}
use Rattle.pgp_auth.proofs.laws.one_signature.Goals as goal

pub returns : goal.returns
returns c = λ v binding first server_first x y. signs_once v binding first server_first x y
