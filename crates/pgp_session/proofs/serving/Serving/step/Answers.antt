use Rattle.pgp_frontend_read.specs.Views.{view}
use Rattle.pgp_session.proofs.Served.{kept_known}
use Rattle.pgp_session.proofs.serving.Serving.step.Goals as goal

pub returns-clause-known : goal.returns-clause-known
returns-clause-known g c = λ start received. kept_known g.A.Memory.Lacks g.B.Buffer.Lacks start received (view c.args.message.now) _ _ _ _ c.hear.result c.hear.ensures
