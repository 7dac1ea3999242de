use Rattle.pgp_auth.proofs.Grants.{admitted_cause, one_refusal, meets_not_refused, answered}
use Rattle.pgp_auth.proofs.Once.{meets_once}
use Rattle.pgp_auth.proofs.laws.first_text_is_answered_in_one_way.Goals as goal

pub returns-clause-some : goal.returns-clause-some
returns-clause-some c = λ client_nonce text. answered client_nonce text

pub returns-clause-meets : goal.returns-clause-meets
returns-clause-meets c = λ c text n s m t i j. meets_once c text n s m t i j

pub returns-clause-refused : goal.returns-clause-refused
returns-clause-refused c = λ c text d e. one_refusal c text d e

pub returns-clause-one : goal.returns-clause-one
returns-clause-one c = λ c text n s i e. meets_not_refused c text n s i e

pub returns-clause-admitted : goal.returns-clause-admitted
returns-clause-admitted c client_nonce text e admitted refused = admitted_cause client_nonce text e admitted refused
