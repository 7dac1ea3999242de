use Rattle.for_c.proofs.Copies.{then_head, at_tag}
use Rattle.for_c.proofs.copying.put_head.Goals as goal

pub returns-in-Ok-clause-cause : goal.returns-in-Ok-clause-cause
returns-in-Ok-clause-cause g c = then_head g.B.Buffer.Lacks _ _ c.put_u32.result c.in-Ok.ensures.ok c.put_u32.ensures.cause

pub returns-in-Err-clause-cause : goal.returns-in-Err-clause-cause
returns-in-Err-clause-cause g c = at_tag g.B.Buffer.Lacks _ c.in-Err.e c.in-Err.ensures.cause
