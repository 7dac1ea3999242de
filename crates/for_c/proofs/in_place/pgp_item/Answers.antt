use Rattle.for_c.proofs.Common.{arith}
use Rattle.for_c.proofs.ItemSteps.{value_placed}
use Rattle.for_c.proofs.in_place.pgp_item.Goals as goal

pub returns-clause-placed : goal.returns-clause-placed
returns-clause-placed c z = value_placed c.args.len c.args.out.now _ c.args.items.now _ (omega (arith, c.if-len-gt-MOST.false)) (c.add.ensures.added z)
