-- With those that are still to come they are all.
use Rattle.pgtrace_session.proofs.Common.{◌≡◌, ◌++◌, length, map, parameter}
use Rattle.pgtrace_session.proofs.fields.given_types.Given as goal

abbrev pub invariant-types : goal.invariant-types
invariant-types g l = l.list.items ++ map parameter l.types ≡ map parameter l.fn.types

abbrev pub decreases-types : goal.decreases-types
decreases-types g l = length l.types
