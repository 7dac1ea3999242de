use Rattle.for_c.proofs.Numerics.{has_parts, has_inside}
use Rattle.for_c.proofs.numeric.pgp_get_numeric.Goals as goal

pub returns-in-Ok-clause-read : goal.returns-in-Ok-clause-read
returns-in-Ok-clause-read c z = (_, has_parts c.args.bytes.now _ c.in-Ok.ensures _ c.parts_of.ensures)

pub returns-in-Ok-clause-inside : goal.returns-in-Ok-clause-inside
returns-in-Ok-clause-inside c z = has_inside c.args.bytes.now _ c.in-Ok.ensures _ c.parts_of.ensures
