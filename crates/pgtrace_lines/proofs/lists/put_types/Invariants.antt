-- What is still to come makes of the line what all was to make of it.
use Rattle.pgtrace_lines.proofs.Common.{◌≡◌, length, string_bytes, followed, list_of, type_part}
use Rattle.pgtrace_lines.proofs.lists.put_types.Given as goal

abbrev pub invariant-items : goal.invariant-items
invariant-items g l = followed l.style (string_bytes l.line) (list_of type_part l.types.items l.types.end) ≡ followed l.fn.style (string_bytes l.fn.line) (list_of type_part l.fn.types.items l.fn.types.end)

abbrev pub decreases-items : goal.decreases-items
decreases-items g l = length l.types.items
