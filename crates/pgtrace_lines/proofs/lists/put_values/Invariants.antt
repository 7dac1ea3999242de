-- What is still to come makes of the line what all was to make of it.
use Rattle.pgtrace_lines.proofs.Common.{◌≡◌, length, string_bytes, AllByRecursion, followed, list_of, value_part}
use Rattle.pgp_message.specs.Table.{IsPlaceIn}
use Rattle.pgtrace_lines.proofs.lists.put_values.Given as goal

abbrev pub invariant-items : goal.invariant-items
invariant-items g l = (followed l.style (string_bytes l.line) (list_of (value_part l.buffer) l.places.items l.places.end) ≡ followed l.fn.style (string_bytes l.fn.line) (list_of (value_part l.fn.buffer) l.fn.places.items l.fn.places.end)) × AllByRecursion (IsPlaceIn (length l.buffer)) l.places.items

abbrev pub decreases-items : goal.decreases-items
decreases-items g l = length l.places.items
