-- What is still to come makes of the line what all was to make of it.
use Rattle.pgtrace_lines.proofs.Common.{◌≡◌, None, length, string_bytes, followed, pair_parts, list_of}
use Rattle.pgtrace_lines.proofs.client_lists.put_pairs.Given as goal

abbrev pub invariant-items : goal.invariant-items
invariant-items g l = followed l.style (string_bytes l.line) (list_of pair_parts l.pairs None) ≡ followed l.fn.style (string_bytes l.fn.line) (list_of pair_parts l.fn.pairs None)

abbrev pub decreases-items : goal.decreases-items
decreases-items g l = length l.pairs
