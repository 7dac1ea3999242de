use Rattle.pgp_auth.proofs.OneText.{one_literal}
use Rattle.pgp_auth.proofs.laws.one_literal_of_each_form.Goals as goal

pub returns : goal.returns
returns c = one_literal
