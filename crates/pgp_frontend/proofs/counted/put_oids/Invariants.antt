use Rattle.pgp_frontend.proofs.Common.{◌≡◌, ◌<◌, ◌^◌, length, All, flat_map, ◌⊕◌, uint16, oid}
use Rattle.pgp_frontend.proofs.counted.put_oids.Given as goal

abbrev pub invariant-loop-item : goal.invariant-loop-item
invariant-loop-item g l =
    (l.count ≡ length l.yielded)
    × All (λ n. n < 2 ^ 32) l.yielded
    × (g.B.Buffer.held l.buf ≡ g.B.Buffer.held l.fn.buf ⊕ uint16 0 ⊕ flat_map oid l.yielded)
