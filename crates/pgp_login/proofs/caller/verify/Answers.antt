use Rattle.pgp_login.proofs.Common.{refl}
use Rattle.pgp_auth.specs.ScramErrorView.{refusal}
use Rattle.pgp_login.specs.Exchange.{Shows}
use Rattle.pgp_login.proofs.caller.verify.Goals as goal

pub returns-in-Err : goal.returns-in-Err
returns-in-Err g c = Shows c.args.exchange.now.signature (refusal c.in-Err.e) refl refl c.in-Err.ensures.err
