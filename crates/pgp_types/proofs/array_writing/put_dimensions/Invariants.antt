use Rattle.pgp_types.proofs.Common.{◌≡◌, ◌≤◌, length, All, flat_map, ◌⊕◌, IsDimension, dimension_bytes}
use Rattle.pgp_types.proofs.array_writing.put_dimensions.Given as goal

abbrev pub invariant-loop-dimension : goal.invariant-loop-dimension
invariant-loop-dimension g l =
    (l.count ≡ length l.yielded)
    × (l.count ≤ 2147483647)
    × All IsDimension l.yielded
    × (g.B.Buffer.held l.buf ≡ g.B.Buffer.held l.fn.buf ⊕ flat_map dimension_bytes l.yielded)
