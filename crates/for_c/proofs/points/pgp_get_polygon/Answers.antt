use Rattle.for_c.proofs.Common.{refl, ap, corner}
use Rattle.for_c.proofs.RecordWalks.{begins_list}
use Rattle.for_c.proofs.points.pgp_get_polygon.Goals as goal

pub returns-in-Ok-clause-read : goal.returns-in-Ok-clause-read
returns-in-Ok-clause-read c z = rw c.begin.ensures.set (begins_list corner.part c.args.bytes.now _ _ _ c.in-Ok.ensures.value (ap (λ p. p.0) c.size_hint.ensures) refl)
