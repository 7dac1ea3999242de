use Rattle.pgp_frontend_read.specs.Views.{view}
use Rattle.pgp_login.proofs.LogIns.{puts}
use Rattle.pgp_login.proofs.exchange.put.Goals as goal

pub returns-clause-put : goal.returns-clause-put
returns-clause-put g c = puts g.A.Memory.Lacks (view c.args.message.now) c.args.out.now.items c.forward.new.buf.items c.forward.result c.forward.ensures
