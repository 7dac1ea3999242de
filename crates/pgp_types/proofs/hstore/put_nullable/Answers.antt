use Rattle.pgp_types.proofs.Common.{arith, ◌≡◌, ◌+◌, ap, inl, length, refl, uint32, nullable, if_err_at, length-uint32, wants_more, wants_now, wants_then, shown, nullable_least, sized_length}
use Rattle.pgp_types.proofs.Appending.{memory_as}
use Rattle.pgp_types.proofs.hstore.put_nullable.Goals as goal

pub returns-in_default-clause-cause : goal.returns-in_default-clause-cause
returns-in_default-clause-cause g c =
    memory_as g.B.Buffer.Lacks c.put_u32.result (g.B.Buffer.held c.args.buf.now) 4 _ _ (nullable_least (shown c.args.v)) c.put_u32.ensures.cause

pub returns-in_err-put_u32-clause-cause : goal.returns-in_err-put_u32-clause-cause
returns-in_err-put_u32-clause-cause g c =
    let memory = c.in_err-put_u32.ensures.cause in
    if_err_at _ _ _ c.from_residual-in_err-put_u32.ensures.1 (inl (memory.0, wants_more _ 4 _ (nullable_least (shown c.args.v)) memory.1))

pub returns-in_err-append-clause-cause : goal.returns-in_err-append-clause-cause
returns-in_err-append-clause-cause g c =
    let size : length (nullable (shown c.args.v)) ≡ length c.in-Some.text.now + 4 = rw c.in-Some.is (sized_length c.in-Some.text.now) in
    let bytes = ap length c.as_bytes.ensures.value in
    if_err_at _ _ _ c.from_residual-in_err-append.ensures.1
    (inl (refl, wants_then (g.B.Buffer.held c.args.buf.now) _ (uint32 c.in_ok-length_field.field-0) _ _ c.in_ok-put_u32.ensures.ok (omega (arith, size, bytes, length-uint32 c.in_ok-length_field.field-0)) (wants_now _ _ c.in_err-append.ensures.lacks)))
