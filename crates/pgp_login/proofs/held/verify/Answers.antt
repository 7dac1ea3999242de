use Rattle.pgp_auth.specs.ScramErrorView.{refusal}
use Rattle.pgp_login.proofs.Exchanges.{unverified_at}
use Rattle.pgp_login.proofs.held.verify.Goals as goal

pub returns-in-Err : goal.returns-in-Err
returns-in-Err g c = unverified_at g.A.Memory.Lacks c.args.exchange.now.state c.args.text.now (refusal c.in-Err.e) _ _ c.in-Err.ensures.err.why
