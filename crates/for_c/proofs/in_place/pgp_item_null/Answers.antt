use Rattle.for_c.proofs.ItemSteps.{null_placed}
use Rattle.for_c.proofs.in_place.pgp_item_null.Goals as goal

pub returns-then-code-eq0-clause-placed : goal.returns-then-code-eq0-clause-placed
returns-then-code-eq0-clause-placed c z = null_placed c.args.out.now _ c.args.items.now _ (c.add-code.ensures.added z)
