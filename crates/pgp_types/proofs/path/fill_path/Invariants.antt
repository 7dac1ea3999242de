use Rattle.pgp_types.proofs.Common.{◌≡◌, ◌≤◌, length, map, flat_map, ◌⊕◌, uint32, point_bytes, point_at_xy, bool_bytes}
use Rattle.pgp_types.proofs.path.fill_path.Given as goal

abbrev pub invariant-loop-x : goal.invariant-loop-x
invariant-loop-x g l =
    (l.count ≡ length l.yielded)
    × (l.count ≤ 2147483647)
    × (g.B.Buffer.held l.buf ≡ g.B.Buffer.held l.fn.buf ⊕ bool_bytes l.closed ⊕ uint32 0 ⊕ flat_map point_bytes (map point_at_xy l.yielded))
