use Rattle.pgp_auth.proofs.Common.{false}
use Rattle.pgp_auth.proofs.OneText.{one_quoted}
use Rattle.pgp_auth.proofs.laws.one_identifier.Goals as goal

pub returns : goal.returns
returns c = one_quoted 34 false
