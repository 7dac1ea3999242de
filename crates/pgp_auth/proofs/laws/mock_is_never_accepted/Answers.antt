use Rattle.pgp_auth.proofs.Mocks.{never_accepted}
use Rattle.pgp_auth.proofs.laws.mock_is_never_accepted.Goals as goal

pub returns : goal.returns
returns c = λ serving between new first answer last signature mock h d. never_accepted serving between new first answer last signature mock h d
