use Rattle.for_c.proofs.Common.{[], ◌∷◌, arith, memory_more, memory_then, length-uint16, only_memory}
use Rattle.for_c.proofs.Handed.{err_then}
use Rattle.for_c.proofs.tsquery.put_phrase.Goals as goal

pub returns-in-Ok-clause-cause : goal.returns-in-Ok-clause-cause
returns-in-Ok-clause-cause g c =
    err_then _ _ c.put_u16.result c.put_u16.ensures.cause (λ e memory. memory_then (g.B.Buffer.held c.args.buf.now) _ (2 ∷ 4 ∷ []) 2 _ e c.in-Ok.ensures.1 (omega (arith, length-uint16 c.args.distance)) memory)

pub returns-in-Err-clause-cause : goal.returns-in-Err-clause-cause
returns-in-Err-clause-cause g c = memory_more _ 2 _ _ (omega (arith, length-uint16 c.args.distance)) (only_memory _ c.in-Err.ensures.0)
