use Rattle.for_c.proofs.Common.{◌≡◌, true, take, list_all, is_node}
use Rattle.for_c.proofs.tsquery.all_nodes.Given as goal

abbrev pub invariant-loop-item : goal.invariant-loop-item
invariant-loop-item l = list_all is_node (take l.item-index l.items) ≡ true
