use Rattle.std.specs.Prelude.{◌<◌, ◌-◌}
use Rattle.pgtool_line.proofs.Common.{greatest}
use Rattle.pgtool_line.proofs.words.word.Given as goal

abbrev pub invariant-sizes : goal.invariant-sizes
invariant-sizes g l = 0 < l.size

abbrev pub decreases-sizes : goal.decreases-sizes
decreases-sizes g l = greatest - l.size
