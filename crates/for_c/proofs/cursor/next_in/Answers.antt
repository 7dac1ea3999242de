use Rattle.for_c.proofs.Common.{rules, refl}
use Rattle.for_c.proofs.Walks.{one_fewer, passes_left, stands_in}
use Rattle.for_c.proofs.cursor.next_in.Goals as goal

pub returns-in-Ok-clause-item : goal.returns-in-Ok-clause-item
returns-in-Ok-clause-item g c z bytes is =
    let left = c.args.cursor.now in
    let stands = stands_in bytes c.args.rest.now left is in (
      passes_left g.L.Listed.Spelled bytes c.args.rest.now left _ _ _ c.in-Ok.more.now is (c.in-Ok.ensures.item bytes stands) (search rules) c.in-Ok.ensures.shorter (search rules) refl,
      one_fewer left.left (search rules),
    )
