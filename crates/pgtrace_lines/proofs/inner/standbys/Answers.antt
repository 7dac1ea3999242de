use Rattle.pgtrace_lines.proofs.Inners.{no_feedback, no_status, none_so}
use Rattle.pgtrace_lines.proofs.inner.standbys.Goals as goal

pub returns-in-114-clause-none : goal.returns-in-114-clause-none
returns-in-114-clause-none c = rw c.in-114.is (none_so c.status_update.result (no_status c.args.rest.now) c.status_update.ensures.none)

pub returns-in-104-clause-none : goal.returns-in-104-clause-none
returns-in-104-clause-none c = rw c.in-104.is (none_so c.feedback.result (no_feedback c.args.rest.now) c.feedback.ensures.none)
