use Rattle.pgwire_engines.proofs.OneAnswer.{one_answer}
use Rattle.pgwire_engines.proofs.laws.one_answer.Goals as goal

pub returns : goal.returns
returns c = one_answer
