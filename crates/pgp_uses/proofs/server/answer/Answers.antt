use Rattle.pgp_uses.proofs.Common.{rules, inl, cut_back, front_then, front_left, if_err_at}
use Rattle.pgp_uses.proofs.Written.{framed, refused, tag_wants}
use Rattle.pgp_uses.proofs.server.answer.Goals as goal

pub returns-clause-ok : goal.returns-clause-ok
returns-clause-ok g c = framed g.B.Buffer.held _ _ _ (λ b d h. search rules) _ _ _ _ c.in_ok-put_u8.ensures.ok c.in_default.ensures.ok

pub returns-in-Err-clause-err : goal.returns-in-Err-clause-err
returns-in-Err-clause-err g c =
    cut_back _ _ _ c.len-start.result (front_then _ _ _ _ c.in_ok-put_u8.ensures.ok (front_left _ _ c.in-Err.ensures.err)) c.len-start.ensures.value c.truncate.ensures.bytes c.truncate.ensures.kept

pub returns-in-Err-clause-cause : goal.returns-in-Err-clause-cause
returns-in-Err-clause-cause g c =
    rw c.refusal.ensures (refused g.B.Buffer.held _ _ c.args.payload.now g.B.Buffer.Lacks (g.B.Buffer.held c.args.buf.now) _ c.args.tag c.in-Err.e c.in_ok-put_u8.ensures.ok (λ b d h. search rules) (λ b d x h. search rules) c.in-Err.ensures.cause)

pub returns-in_err-put_u8-clause-cause : goal.returns-in_err-put_u8-clause-cause
returns-in_err-put_u8-clause-cause g c =
    let memory = c.in_err-put_u8.ensures.cause in
    if_err_at _ _ _ c.from_residual.ensures.1 (inl (memory.0, tag_wants c.args.tag c.args.payload.now memory.1))
