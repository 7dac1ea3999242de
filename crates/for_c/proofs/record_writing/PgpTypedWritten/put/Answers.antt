use Rattle.for_c.proofs.Common.{arith, inl, inr, length-append, oid, nullable, oid_number, memory_more, memory_then, value_of}
use Rattle.for_c.proofs.Handed.{err_then}
use Rattle.for_c.proofs.record_writing.PgpTypedWritten.put.Goals as goal

pub returns-in-Err-clause-cause : goal.returns-in-Err-clause-cause
returns-in-Err-clause-cause g c =
    let type = oid c.args.self.now.of_type in
    let value = nullable (value_of c.args.self.now.value) in
    inl (memory_more _ 4 _ _ (omega (arith, length-append type value, oid_number.len c.args.self.now.of_type)) c.in-Err.ensures.cause)

pub returns-in-Ok-clause-cause : goal.returns-in-Ok-clause-cause
returns-in-Ok-clause-cause g c =
    let type = oid c.args.self.now.of_type in
    let value = nullable (value_of c.args.self.now.value) in
    err_then _ _ c.put_value.result c.put_value.ensures.cause (λ e why. elim why [
      | inl memory ↦ inl (memory_then (g.B.Buffer.held c.args.buf.now) _ type _ _ _ c.in-Ok.ensures.ok (omega (arith, length-append type value)) memory)
      | inr some ↦ inr some
    ])
