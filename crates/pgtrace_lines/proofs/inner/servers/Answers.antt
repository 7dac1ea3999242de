use Rattle.pgtrace_lines.proofs.Inners.{no_keepalive, no_log, none_so}
use Rattle.pgtrace_lines.proofs.inner.servers.Goals as goal

pub returns-in-119-clause-none : goal.returns-in-119-clause-none
returns-in-119-clause-none c = rw c.in-119.is (none_so c.x_log_data.result (no_log c.args.rest.now) c.x_log_data.ensures.none)

pub returns-in-107-clause-none : goal.returns-in-107-clause-none
returns-in-107-clause-none c = rw c.in-107.is (none_so c.keepalive.result (no_keepalive c.args.rest.now) c.keepalive.ensures.none)
