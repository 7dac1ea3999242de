use Rattle.std.proofs.Common.{length}
use Rattle.test_bench.proofs.streams.read.Given as goal

abbrev pub decreases-messages : goal.decreases-messages
decreases-messages l = length l.buf.items
