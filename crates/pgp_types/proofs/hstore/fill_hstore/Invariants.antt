use Rattle.pgp_types.proofs.Common.{◌≡◌, ◌≤◌, length, map, None, flat_map, first, ◌⊕◌, uint32, entry_bytes, entry_cause, shown_entries}
use Rattle.pgp_types.proofs.hstore.fill_hstore.Given as goal

abbrev pub invariant-loop-key : goal.invariant-loop-key
invariant-loop-key g l =
    (l.count ≡ length l.yielded)
    × (l.count ≤ 2147483647)
    × (first (map entry_cause (shown_entries l.yielded)) ≡ None)
    × (g.B.Buffer.held l.buf ≡ g.B.Buffer.held l.fn.buf ⊕ uint32 0 ⊕ flat_map entry_bytes (shown_entries l.yielded))
