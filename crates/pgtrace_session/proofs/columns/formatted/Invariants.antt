-- With the rest it makes all of them.
use Rattle.pgtrace_session.proofs.Common.{◌≡◌, ◌++◌, length, formatted, formatted_from}
use Rattle.pgtrace_session.proofs.columns.formatted.Given as goal

abbrev pub invariant-columns : goal.invariant-columns
invariant-columns g l = l.list.items ++ formatted_from (length l.list.items) l.formats l.rest ≡ formatted l.fn.formats l.fn.columns

abbrev pub decreases-columns : goal.decreases-columns
decreases-columns g l = length l.rest
