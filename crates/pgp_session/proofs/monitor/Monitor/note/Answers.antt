use Rattle.pgp_session.specs.Monitor.{shown}
use Rattle.pgp_session.proofs.MonitorSteps.{notes}
use Rattle.pgp_session.proofs.monitor.Monitor.note.Goals as goal

pub returns-clause-known : goal.returns-clause-known
returns-clause-known g c = λ requests kinds events gone w. notes g.A.Memory.Lacks c.args.request requests kinds events gone (shown c.args.self.now) (shown c.put_down.new.self) c.put_down.result c.put_down.ensures w
