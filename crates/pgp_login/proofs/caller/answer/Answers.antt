use Rattle.pgp_login.specs.Exchange.{seen_caller, seen_client}
use Rattle.pgp_login.proofs.Exchanges.{not_replied_so}
use Rattle.pgp_login.proofs.caller.answer.Goals as goal

pub returns-in-Err-answer-clause-said : goal.returns-in-Err-answer-clause-said
returns-in-Err-answer-clause-said g c = not_replied_so g.A.Memory.Lacks (seen_client c.in-Ok.client) (seen_caller c.args.exchange.now) c.args.text.now _ c.in-Ok.ensures.ok c.in-Err-answer.ensures.said
