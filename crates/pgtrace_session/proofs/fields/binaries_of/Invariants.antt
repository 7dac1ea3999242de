-- With those that are still to come they are all.
use Rattle.pgtrace_session.proofs.Common.{◌≡◌, ◌++◌, length, map, is_binary}
use Rattle.pgtrace_session.proofs.fields.binaries_of.Given as goal

abbrev pub invariant-formats : goal.invariant-formats
invariant-formats g l = l.list.items ++ map is_binary l.formats ≡ map is_binary l.fn.formats

abbrev pub decreases-formats : goal.decreases-formats
decreases-formats g l = length l.formats
