use Rattle.pgp_auth.proofs.Common.{refl}
use Rattle.pgp_auth.proofs.Mocks.{reported_alike}
use Rattle.pgp_auth.proofs.laws.mock_is_told_alike.Goals as goal

pub returns-clause-answer : goal.returns-clause-answer
returns-clause-answer c = λ d stored_key server_key. refl

pub returns-clause-refusal : goal.returns-clause-refusal
returns-clause-refusal c = λ d text stored_key server_key e. reported_alike d text stored_key server_key e
