-- What is still to come makes of the line what all was to make of it.
use Rattle.pgtrace_lines.proofs.Common.{◌≡◌, length, string_bytes, followed, list_of, column_parts}
use Rattle.pgtrace_lines.proofs.lists.put_columns.Given as goal

abbrev pub invariant-items : goal.invariant-items
invariant-items g l = followed l.style (string_bytes l.line) (list_of column_parts l.columns.items l.columns.end) ≡ followed l.fn.style (string_bytes l.fn.line) (list_of column_parts l.fn.columns.items l.fn.columns.end)

abbrev pub decreases-items : goal.decreases-items
decreases-items g l = length l.columns.items
