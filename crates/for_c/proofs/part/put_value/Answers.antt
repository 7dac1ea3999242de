use Rattle.for_c.proofs.Common.{inl, nullable_least, wants_more, value_of}
use Rattle.for_c.proofs.Handed.{err_then}
use Rattle.for_c.proofs.part.put_value.Goals as goal

pub returns-then-value-clause-cause : goal.returns-then-value-clause-cause
returns-then-value-clause-cause g c = err_then _ _ c.put_u32.result c.put_u32.ensures.cause (λ e memory. inl (memory.0, wants_more _ 4 _ (nullable_least (value_of c.args.value.now)) memory.1))
