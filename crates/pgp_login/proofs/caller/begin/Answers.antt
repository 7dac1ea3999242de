use Rattle.pgp_login.specs.Exchange.{seen_caller, seen_client}
use Rattle.pgp_login.proofs.Exchanges.{begins_so}
use Rattle.pgp_login.proofs.caller.begin.Goals as goal

pub returns-in-Ok-clause-said : goal.returns-in-Ok-clause-said
returns-in-Ok-clause-said g c = begins_so g.A.Memory.Lacks (seen_client c.in-Ok.client) (seen_caller c.args.exchange.now) c.args.out.now.items c.begin.new.out.items c.begin.result c.in-Ok.ensures.ok c.begin.ensures.said
