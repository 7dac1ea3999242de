use Rattle.pgp_message.proofs.Bodies.{cut_key, cut_version}
use Rattle.pgp_message.proofs.laws.cut_numbers_end_early.Goals as goal

pub returns-clause-keys : goal.returns-clause-keys
returns-clause-keys c = cut_key

pub returns-clause-versions : goal.returns-clause-versions
returns-clause-versions c = cut_version
