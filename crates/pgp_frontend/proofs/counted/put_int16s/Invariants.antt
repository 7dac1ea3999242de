use Rattle.pgp_frontend.proofs.Common.{◌≡◌, length, All, FitsSigned, w16, flat_map, ◌⊕◌, uint16, int16}
use Rattle.pgp_frontend.proofs.counted.put_int16s.Given as goal

abbrev pub invariant-loop-item : goal.invariant-loop-item
invariant-loop-item g l =
    (l.count ≡ length l.yielded)
    × All (FitsSigned w16) l.yielded
    × (g.B.Buffer.held l.buf ≡ g.B.Buffer.held l.fn.buf ⊕ uint16 0 ⊕ flat_map int16 l.yielded)
