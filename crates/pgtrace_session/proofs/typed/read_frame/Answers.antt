use Rattle.pgtrace_session.proofs.Common.{kind_view}
use Rattle.pgtrace_session.proofs.Readings.{if_ok}
use Rattle.pgtrace_session.proofs.typed.read_frame.Goals as goal

pub returns-in-Server-clause-read : goal.returns-in-Server-clause-read
returns-in-Server-clause-read g c = rw c.in-Server.is (if_ok c.read_heard.result (λ x all said is. all c.args.opened (kind_view c.args.kind) said is) c.read_heard.ensures.read)
