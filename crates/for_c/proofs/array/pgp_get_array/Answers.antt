use Rattle.for_c.proofs.Common.{rules}
use Rattle.for_c.proofs.Compound.{array_in}
use Rattle.for_c.proofs.array.pgp_get_array.Goals as goal

pub returns-in-Ok-clause-read : goal.returns-in-Ok-clause-read
returns-in-Ok-clause-read c z =
    array_in c.args.bytes.now c.in-Ok.array _ c.saturating_add-behind.result c.in-Ok.ensures (search rules) (search rules) c.element_type.ensures c.has_nulls.ensures (search rules) (search rules)
