use Rattle.pgp_auth.proofs.ShownKeys.{empty_is}
use Rattle.pgp_auth.proofs.laws.empty_name_is_signed.Goals as goal

pub returns : goal.returns
returns c = λ binding nonce server_first final auth x. empty_is binding nonce server_first final auth x
