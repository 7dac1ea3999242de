use Rattle.pgserve.specs.Sent.{Informs}
use Rattle.pgserve.proofs.channels.Channels.deliver.Given as goal

abbrev pub invariant-loop-pair : goal.invariant-loop-pair
invariant-loop-pair l = Informs l.fn.out.bytes.items l.out.bytes.items
