use Rattle.for_c.proofs.Common.{rules, arith, length-append, uint32, length-uint32, wants_more, wants_now, wants_then}
use Rattle.for_c.proofs.part.put_behind.Goals as goal

pub returns-in-Err-append-clause-cause : goal.returns-in-Err-append-clause-cause
returns-in-Err-append-clause-cause g c =
    let n = c.args.number in
    (search rules, wants_then (g.B.Buffer.held c.args.buf.now) _ (uint32 n) _ _ c.in-Ok.ensures.ok (omega (arith, length-append (uint32 n) c.args.bytes.now, length-uint32 n)) (wants_now _ _ c.in-Err-append.ensures.lacks))

pub returns-in-Err-clause-cause : goal.returns-in-Err-clause-cause
returns-in-Err-clause-cause g c =
    let n = c.args.number in
    let memory = c.in-Err.ensures.cause in
    (memory.0, wants_more _ 4 _ (omega (arith, length-append (uint32 n) c.args.bytes.now, length-uint32 n)) memory.1)
