-- What is still to come makes of the line what all was to make of it.
use Rattle.pgtrace_lines.proofs.Common.{◌≡◌, None, length, string_bytes, followed, numbers_of, list_of, number_part}
use Rattle.pgtrace_lines.proofs.unread.put_numbers.Given as goal

abbrev pub invariant-numbers : goal.invariant-numbers
invariant-numbers g l = followed l.style (string_bytes l.line) (list_of number_part (numbers_of l.rest) None) ≡ followed l.fn.style (string_bytes l.fn.line) (list_of number_part (numbers_of l.fn.bytes) None)

abbrev pub decreases-numbers : goal.decreases-numbers
decreases-numbers g l = length l.rest
