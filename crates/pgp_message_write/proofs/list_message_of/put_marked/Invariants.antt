use Rattle.pgp_message_write.proofs.Common.{flat_map, PutsParts}
use Rattle.pgp_message_write.proofs.list_message_of.put_marked.Given as goal

abbrev pub invariant-loop-item : goal.invariant-loop-item
invariant-loop-item g l = PutsParts (flat_map g.T.Item.parts l.yielded) (g.B.Buffer.held l.fn.buf) (g.B.Buffer.held l.buf)
