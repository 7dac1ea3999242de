use Rattle.pgp_auth.proofs.Md5Checks.{answer_reported}
use Rattle.pgp_auth.proofs.laws.md5_answers_are_told.Goals as goal

pub returns : goal.returns
returns c = λ password user salt answer. answer_reported password user salt answer
