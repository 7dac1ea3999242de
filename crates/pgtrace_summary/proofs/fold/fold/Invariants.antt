-- With the rest it makes all of it.
use Rattle.pgtrace_summary.proofs.Common.{◌≡◌, ◌++◌, length, folded, folded_from}
use Rattle.pgtrace_summary.proofs.fold.fold.Given as goal

abbrev pub invariant-bytes : goal.invariant-bytes
invariant-bytes g l = l.list.items ++ folded_from l.inside l.same l.rest ≡ folded l.fn.text

abbrev pub decreases-bytes : goal.decreases-bytes
decreases-bytes g l = length l.rest
