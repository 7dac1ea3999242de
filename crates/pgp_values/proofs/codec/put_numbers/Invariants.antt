use Rattle.pgp_values.proofs.Common.{◌≡◌, take, flat_map, ◌⊕◌, uint16}
use Rattle.pgp_values.proofs.codec.put_numbers.Given as goal

abbrev pub invariant-loop-i : goal.invariant-loop-i
invariant-loop-i g l = g.B.Buffer.held l.buf ≡ g.B.Buffer.held l.fn.buf ⊕ flat_map uint16 (take l.i l.numbers)
