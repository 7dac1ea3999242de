-- Some of the rest are, if any.
use Rattle.pgtrace_session.proofs.Common.{◌≡◌, length, has_binary}
use Rattle.pgtrace_session.proofs.row.has_binary.Given as goal

abbrev pub invariant-columns : goal.invariant-columns
invariant-columns l = has_binary l.rest ≡ has_binary l.fn.columns

abbrev pub decreases-columns : goal.decreases-columns
decreases-columns l = length l.rest
