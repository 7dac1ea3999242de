use Rattle.for_c.proofs.Common.{◌≡◌, None, map, take, ◌⊕◌, items_bytes, items_cause}
use Rattle.for_c.proofs.list_writing.put_items.Given as goal

abbrev pub invariant-loop-item : goal.invariant-loop-item
invariant-loop-item g l =
    (items_cause g.T.Written.item (map g.T.Written.meaning (take l.item-index l.items)) ≡ None)
    × (g.B.Buffer.held l.buf ≡ g.B.Buffer.held l.fn.buf ⊕ items_bytes g.T.Written.item (map g.T.Written.meaning (take l.item-index l.items)))
