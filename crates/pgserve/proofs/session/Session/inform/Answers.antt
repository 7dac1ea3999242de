use Rattle.std.proofs.Common.{refl, ap}
use Rattle.pgserve.proofs.Informs.{informed}
use Rattle.pgserve.proofs.session.Session.inform.Goals as goal

pub returns-clause-informs : goal.returns-clause-informs
returns-clause-informs c = informed (informed c.settle.ensures c.put_notifications.ensures refl refl) c.report.ensures (ap (λ b. b.items) c.end_request.ensures) refl
