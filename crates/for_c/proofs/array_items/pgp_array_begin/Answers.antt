use Rattle.for_c.proofs.ArrayItems.{size_is}
use Rattle.for_c.proofs.array_items.pgp_array_begin.Goals as goal

pub returns-in-Ok-clause-begun : goal.returns-in-Ok-clause-begun
returns-in-Ok-clause-begun c z = c.begin.ensures.begun z c.in-Ok.product c.in-Ok.ensures.ok (size_is c.args.dimensions.now c.in-Ok.product _ c.size.ensures.none c.size.ensures.some)
