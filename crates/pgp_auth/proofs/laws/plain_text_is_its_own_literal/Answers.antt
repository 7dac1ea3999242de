use Rattle.pgp_auth.proofs.Reading.{own_literal}
use Rattle.pgp_auth.proofs.laws.plain_text_is_its_own_literal.Goals as goal

pub returns : goal.returns
returns c = own_literal
