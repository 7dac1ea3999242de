-- The names that are still to come make of the line what all were to make of it.
use Rattle.pgtrace_session.proofs.Common.{◌≡◌, None, followed, length, names_from, string_bytes}
use Rattle.pgtrace_lines.specs.Shown.{list_of, text_part}
use Rattle.pgtrace_session.proofs.row.put_each_name.Given as goal

abbrev pub invariant-columns : goal.invariant-columns
invariant-columns g l = followed l.style (string_bytes l.line) (list_of text_part (names_from l.rest l.left) None) ≡ followed l.fn.style (string_bytes l.fn.line) (list_of text_part (names_from l.fn.columns l.fn.names) None)

abbrev pub decreases-columns : goal.decreases-columns
decreases-columns g l = length l.rest
