use Rattle.pgp_frontend.proofs.Common.{arith, refl, inl, if_err_at, wants_now, sized_length, sized_wants, memory_more}
use Rattle.pgp_frontend.proofs.field.put_sized.Goals as goal

pub returns-in_err-put_u32-clause-cause : goal.returns-in_err-put_u32-clause-cause
returns-in_err-put_u32-clause-cause g c =
    if_err_at _ _ _ c.from_residual-in_err-put_u32.ensures.1 (inl (memory_more _ 4 _ _ (omega (arith, sized_length c.args.bytes.now)) c.in_err-put_u32.ensures.cause))

pub returns-in_err-append-clause-cause : goal.returns-in_err-append-clause-cause
returns-in_err-append-clause-cause g c =
    if_err_at _ _ _ c.from_residual-in_err-append.ensures.1
    (inl (refl, sized_wants c.args.bytes.now _ (g.B.Buffer.held c.args.buf.now) _ c.in_ok-put_u32.ensures.ok (wants_now _ _ c.in_err-append.ensures.lacks)))
