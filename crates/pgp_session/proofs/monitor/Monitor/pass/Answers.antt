use Rattle.pgp_session.specs.Monitor.{shown}
use Rattle.pgp_session.proofs.MonitorSteps.{passes}
use Rattle.pgp_session.proofs.monitor.Monitor.pass.Goals as goal

pub returns-clause-known : goal.returns-clause-known
returns-clause-known g c = λ requests kinds events gone w. passes g.A.Memory.Lacks c.args.bytes.now requests kinds events gone (shown c.args.self.now) (shown c.let_through.new.self) c.let_through.result c.let_through.ensures w
