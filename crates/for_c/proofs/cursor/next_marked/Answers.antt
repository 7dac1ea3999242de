use Rattle.for_c.proofs.Common.{rules, refl, Unmarked}
use Rattle.for_c.proofs.Walks.{passes_left, stands_in, unmarked}
use Rattle.for_c.proofs.cursor.next_marked.Goals as goal

pub returns-in-Ok-clause-item : goal.returns-in-Ok-clause-item
returns-in-Ok-clause-item g c z =
    let left = c.args.cursor.now in
    let is = c.rest_of-rest.ensures.value in
    let stands = stands_in c.args.bytes.now c.rest_of-rest.result.now left is in
    let item = c.in-Ok.ensures.item c.args.bytes.now stands in
    let shorter = c.in-Ok.ensures.shorter in (
      passes_left (Unmarked g.L.Listed.Spelled) c.args.bytes.now c.rest_of-rest.result.now left _ _ _ c.in-Ok.more.now is
          (unmarked g.L.Listed.Spelled left.at c.rest_of-rest.result.now _ c.in-Ok.more.now (search rules) shorter item) (search rules) shorter (search rules) refl,
      refl,
    )
