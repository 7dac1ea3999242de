use Rattle.pgp_auth.specs.ScramErrorView.{refusal}
use Rattle.pgp_login.proofs.Common.{rules}
use Rattle.pgp_login.proofs.Exchanges.{refused_at, unsent_answer}
use Rattle.pgp_login.proofs.held.answer.Goals as goal

pub returns-in-Err-clause-said : goal.returns-in-Err-clause-said
returns-in-Err-clause-said g c = refused_at g.A.Memory.Lacks c.args.exchange.now.state c.args.text.now (refusal c.in-Err.e) _ _ 0 c.in-Err.ensures.err.why

pub returns-in-Err-put_response-clause-said : goal.returns-in-Err-put_response-clause-said
returns-in-Err-put_response-clause-said g c =
    unsent_answer g.A.Memory.Lacks c.args.exchange.now c.update.new.self c.args.text.now c.in-Some.answer.now c.in-Err-put_response.e c.in-Ok.ensures.ok (search rules) c.in-Err-put_response.ensures.put
