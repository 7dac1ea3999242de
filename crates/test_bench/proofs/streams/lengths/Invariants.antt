use Rattle.std.proofs.Common.{length}
use Rattle.test_bench.proofs.streams.lengths.Given as goal

abbrev pub decreases-values : goal.decreases-values
decreases-values l = length l.ranges.items
