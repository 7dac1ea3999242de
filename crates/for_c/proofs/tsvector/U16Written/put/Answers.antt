use Rattle.for_c.proofs.Common.{arith, inl, memory_more, length-uint16}
use Rattle.for_c.proofs.Handed.{err_then}
use Rattle.for_c.proofs.tsvector.U16Written.put.Goals as goal

pub returns-clause-cause : goal.returns-clause-cause
returns-clause-cause g c = err_then _ _ c.put_u16.result c.put_u16.ensures.cause (λ e memory. inl (memory_more _ 2 _ _ (omega (arith, length-uint16 c.args.self.now)) memory))
