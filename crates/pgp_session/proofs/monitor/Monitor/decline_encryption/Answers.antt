use Rattle.pgp_session.specs.Monitor.{shown}
use Rattle.pgp_session.proofs.MonitorSteps.{declines}
use Rattle.pgp_session.proofs.monitor.Monitor.decline_encryption.Goals as goal

pub returns-clause-known : goal.returns-clause-known
returns-clause-known g c = λ requests kinds events gone w. declines g.A.Memory.Lacks requests kinds events gone (shown c.args.self.now) (shown c.decline.new.self) c.decline.result c.decline.ensures w
