use Rattle.for_c.proofs.Common.{rules, refl}
use Rattle.for_c.proofs.PointLists.{begins_path}
use Rattle.for_c.proofs.points.pgp_get_path.Goals as goal

pub returns-in-Ok-clause-read : goal.returns-in-Ok-clause-read
returns-in-Ok-clause-read c z = begins_path c.args.bytes.now _ _ _ _ c.in-Ok.ensures.value (search rules) (search rules) refl
