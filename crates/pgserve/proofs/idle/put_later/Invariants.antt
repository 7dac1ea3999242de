use Rattle.pgserve.specs.Sent.{Informs}
use Rattle.pgserve.proofs.idle.put_later.Given as goal

abbrev pub invariant-loop-later : goal.invariant-loop-later
invariant-loop-later l = Informs l.fn.out.bytes.items l.out.bytes.items
