use Rattle.pgp_frontend_read.proofs.OneStep.{step_one}
use Rattle.pgp_frontend_read.proofs.laws.one_answer.Goals as goal

pub returns : goal.returns
returns c = step_one
