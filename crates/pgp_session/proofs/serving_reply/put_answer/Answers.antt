use Rattle.pgp_session.proofs.Replies.{admission_said}
use Rattle.pgp_session.proofs.serving_reply.put_answer.Goals as goal

pub returns-in-Welcome : goal.returns-in-Welcome
returns-in-Welcome g c = rw c.in-Welcome.is (admission_said g.B.Buffer.Lacks _ _ c.authentication_ok.result c.authentication_ok.ensures.1)
