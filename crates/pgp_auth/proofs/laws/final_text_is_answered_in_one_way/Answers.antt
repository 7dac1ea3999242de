use Rattle.pgp_auth.proofs.FinalAnswers.{final_answered}
use Rattle.pgp_auth.proofs.Once.{one_final_refusal, shows_not_refused, other_not_refused, shows_not_other}
use Rattle.pgp_auth.proofs.laws.final_text_is_answered_in_one_way.Goals as goal

pub returns-clause-some : goal.returns-clause-some
returns-clause-some c = λ text signature. final_answered text signature

pub returns-clause-refused : goal.returns-clause-refused
returns-clause-refused c = λ text d e. one_final_refusal text d e

pub returns-clause-verifies : goal.returns-clause-verifies
returns-clause-verifies c = λ text signature e. shows_not_refused text signature e

pub returns-clause-differs : goal.returns-clause-differs
returns-clause-differs c = λ text signature e. other_not_refused text signature e

pub returns-clause-one : goal.returns-clause-one
returns-clause-one c = λ text signature. shows_not_other text signature
