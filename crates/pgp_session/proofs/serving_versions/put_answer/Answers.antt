use Rattle.pgp_session.proofs.Common.{rules}
use Rattle.pgp_session.proofs.OptionNames.{none_due}
use Rattle.pgp_session.proofs.serving_versions.put_answer.Goals as goal

pub returns-then-has_all : goal.returns-then-has_all
returns-then-has_all g c = none_due c.args.minor _ _ (search rules)
