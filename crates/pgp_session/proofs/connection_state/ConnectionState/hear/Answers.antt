use Rattle.pgp_session.proofs.Common.{view, in_state}
use Rattle.pgp_session.proofs.Connections.{stops_over}
use Rattle.pgp_session.proofs.connection_state.ConnectionState.hear.Goals as goal

pub returns-in-Err : goal.returns-in-Err
returns-in-Err g c = λ s. stops_over g.A.Memory.Lacks (view c.args.message.now) (in_state c.args.self.now s) (in_state c.take.new.self s) c.in-Err.e (c.in-Err.ensures s)
