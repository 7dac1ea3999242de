-- What is still to come makes of the line what all was to make of it.
use Rattle.pgtrace_lines.proofs.Common.{◌≡◌, length, string_bytes, ObjectEnds, followed, closed, field_parts}
use Rattle.pgtrace_lines.proofs.lists.put_fields.Given as goal

abbrev pub invariant-items : goal.invariant-items
invariant-items g l = followed l.style (string_bytes l.line) (closed ObjectEnds field_parts l.fields.items l.fields.end) ≡ followed l.fn.style (string_bytes l.fn.line) (closed ObjectEnds field_parts l.fn.fields.items l.fn.fields.end)

abbrev pub decreases-items : goal.decreases-items
decreases-items g l = length l.fields.items
