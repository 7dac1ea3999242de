use Rattle.pgp_message_write.proofs.Common.{◌≡◌, length, flat_map, ◌⊕◌, uint16, PutsParts}
use Rattle.pgp_message_write.proofs.list_message_of.put_counted.Given as goal

abbrev pub invariant-loop-item : goal.invariant-loop-item
invariant-loop-item g l =
    (l.count ≡ length l.yielded)
    × PutsParts (flat_map g.T.Item.parts l.yielded) (g.B.Buffer.held l.fn.buf ⊕ uint16 0) (g.B.Buffer.held l.buf)
