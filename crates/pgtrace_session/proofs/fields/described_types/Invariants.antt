-- With those that are still to come they are all.
use Rattle.pgtrace_session.proofs.Common.{◌≡◌, ◌++◌, length, option_map, parameters_in}
use Rattle.pgtrace_session.proofs.fields.described_types.Given as goal

abbrev pub invariant-types : goal.invariant-types
invariant-types g l = option_map (λ rest. l.list.items ++ rest) (parameters_in l.types.items l.types.end) ≡ parameters_in l.fn.types.items l.fn.types.end

abbrev pub decreases-types : goal.decreases-types
decreases-types g l = length l.types.items
