-- What is still to come makes of the line what all was to make of it.
use Rattle.pgtrace_lines.proofs.Common.{◌≡◌, None, length, string_bytes, followed, client_value, list_of}
use Rattle.pgtrace_lines.proofs.client_lists.each_value.Given as goal

abbrev pub invariant-items : goal.invariant-items
invariant-items g l = followed l.style (string_bytes l.line) (list_of client_value l.values None) ≡ followed l.fn.style (string_bytes l.fn.line) (list_of client_value l.fn.values None)

abbrev pub decreases-items : goal.decreases-items
decreases-items g l = length l.values
