use Rattle.pgp_message_write.proofs.Common.{take, flat_map, PutsParts}
use Rattle.pgp_message_write.proofs.list_message.put_items.Given as goal

abbrev pub invariant-loop-item : goal.invariant-loop-item
invariant-loop-item g l = PutsParts (flat_map g.I.Item.parts (take l.item-index l.items)) (g.B.Buffer.held l.fn.buf) (g.B.Buffer.held l.buf)
