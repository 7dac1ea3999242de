use Rattle.pgp_auth.proofs.Plain.{plain_verifier, plain_md5}
use Rattle.pgp_auth.proofs.laws.verifiers_need_no_escape.Goals as goal

pub returns-clause-scram : goal.returns-clause-scram
returns-clause-scram c = plain_verifier

pub returns-clause-md5 : goal.returns-clause-md5
returns-clause-md5 c = plain_md5
