use Rattle.pgp_session.proofs.Common.{rules}
use Rattle.pgp_session.proofs.MonitorSteps.{begins}
use Rattle.pgp_session.proofs.monitor.Monitor.new.Goals as goal

pub returns-clause-known : goal.returns-clause-known
returns-clause-known g c = begins _ (search rules)
