use Rattle.for_c.proofs.Common.{refl, ap, field}
use Rattle.for_c.proofs.RecordWalks.{begins_list}
use Rattle.for_c.proofs.record.pgp_get_record.Goals as goal

pub returns-in-Ok-clause-read : goal.returns-in-Ok-clause-read
returns-in-Ok-clause-read c z = rw c.begin.ensures.set (begins_list field.part c.args.bytes.now _ _ _ c.in-Ok.ensures.value (ap (λ p. p.0) c.size_hint.ensures) refl)
