use Rattle.for_c.proofs.Common.{refl, ap}
use Rattle.for_c.proofs.Compound.{begins_hstore}
use Rattle.for_c.proofs.hstore.pgp_get_hstore.Goals as goal

pub returns-in-Ok-clause-read : goal.returns-in-Ok-clause-read
returns-in-Ok-clause-read c z = rw c.begin.ensures.set (begins_hstore c.args.bytes.now _ _ _ c.in-Ok.ensures.value (ap (λ p. p.0) c.size_hint.ensures) refl)
