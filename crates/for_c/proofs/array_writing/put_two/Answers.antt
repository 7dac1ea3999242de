use Rattle.for_c.proofs.Common.{arith, uint32, memory_more, memory_then, length-uint32}
use Rattle.for_c.proofs.Handed.{err_then}
use Rattle.for_c.proofs.array_writing.put_two.Goals as goal

pub returns-in-Ok-clause-cause : goal.returns-in-Ok-clause-cause
returns-in-Ok-clause-cause g c =
    err_then _ _ c.put_u32-in-Ok.result c.put_u32-in-Ok.ensures.cause (λ e memory. memory_then (g.B.Buffer.held c.args.buf.now) _ (uint32 c.args.one) 4 8 e c.in-Ok.ensures.ok (omega (arith, length-uint32 c.args.one)) memory)

pub returns-in-Err-clause-cause : goal.returns-in-Err-clause-cause
returns-in-Err-clause-cause g c = memory_more _ 4 8 _ (omega arith) c.in-Err.ensures.cause
