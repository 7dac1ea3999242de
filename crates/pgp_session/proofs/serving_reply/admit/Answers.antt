use Rattle.pgp_session.proofs.Common.{Err, admission, signature}
use Rattle.pgp_message_write.specs.Reply.{bytes_of, cause}
use Rattle.pgp_session.proofs.Replies.{admission_said, both_said, first_unsaid, second_unsaid}
use Rattle.pgp_session.proofs.serving_reply.admit.Goals as goal

pub returns-in_err-authentication_sasl_final : goal.returns-in_err-authentication_sasl_final
returns-in_err-authentication_sasl_final g c =
    first_unsaid (bytes_of (signature c.args.text.now)) (bytes_of admission) (cause (signature c.args.text.now)) _ _ c.from_residual.result _ c.from_residual.ensures.0 c.from_residual.ensures.1 c.in_err-authentication_sasl_final.ensures.1

pub returns-in-Ok : goal.returns-in-Ok
returns-in-Ok g c =
    let sent = c.in_ok-authentication_sasl_final.ensures.1 in
    both_said (bytes_of (signature c.args.text.now)) (bytes_of admission) (cause (signature c.args.text.now)) _ _ _ sent.0 sent.1 c.in-Ok.ensures.1.1

pub returns-in-Err : goal.returns-in-Err
returns-in-Err g c =
    second_unsaid (bytes_of (signature c.args.text.now)) (bytes_of admission) (cause (signature c.args.text.now)) _ _ _ _ c.len-start.result c.in-Err.e
    c.in_ok-authentication_sasl_final.ensures.1.1 (admission_said g.B.Buffer.Lacks _ _ (Err c.in-Err.e) c.in-Err.ensures.1) c.len-start.ensures.value c.truncate.ensures.bytes c.truncate.ensures.kept
