use Rattle.pgserve.specs.Sent.{Informs}
use Rattle.pgserve.proofs.session.put_notifications.Given as goal

abbrev pub invariant-loop-pair : goal.invariant-loop-pair
invariant-loop-pair l = Informs l.fn.out.bytes.items l.out.bytes.items
