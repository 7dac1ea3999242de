-- What is still to come makes of the line what all was to make of it.
use Rattle.pgtrace_lines.proofs.Common.{◌≡◌, None, length, string_bytes, followed, list_of, type_part}
use Rattle.pgtrace_lines.proofs.client_lists.each_type.Given as goal

abbrev pub invariant-items : goal.invariant-items
invariant-items g l = followed l.style (string_bytes l.line) (list_of type_part l.types None) ≡ followed l.fn.style (string_bytes l.fn.line) (list_of type_part l.fn.types None)

abbrev pub decreases-items : goal.decreases-items
decreases-items g l = length l.types
