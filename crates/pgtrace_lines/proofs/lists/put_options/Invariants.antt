-- What is still to come makes of the line what all was to make of it.
use Rattle.pgtrace_lines.proofs.Common.{◌≡◌, length, string_bytes, followed, list_of, text_part}
use Rattle.pgtrace_lines.proofs.lists.put_options.Given as goal

abbrev pub invariant-items : goal.invariant-items
invariant-items g l = followed l.style (string_bytes l.line) (list_of text_part l.names.items l.names.end) ≡ followed l.fn.style (string_bytes l.fn.line) (list_of text_part l.fn.names.items l.fn.names.end)

abbrev pub decreases-items : goal.decreases-items
decreases-items g l = length l.names.items
