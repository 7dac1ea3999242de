use Rattle.pgp_auth.proofs.UserNames.{comma_step, second_escape}
use Rattle.pgp_auth.proofs.scram.named.behind_escape.Goals as goal

pub returns-in-Some-clause-name : goal.returns-in-Some-clause-name
returns-in-Some-clause-name c = comma_step c.args.text.now c.in-Some.rest.now c.in-Some.ensures

pub returns-in-None-clause-name : goal.returns-in-None-clause-name
returns-in-None-clause-name c = second_escape c.behind-in-None.result (λ x. x.now) c.args.text.now c.in-None.ensures c.behind-in-None.ensures
