use Rattle.pgp_types.proofs.Common.{◌≡◌, ◌⊕◌, uint32}
use Rattle.pgp_types.proofs.varbit.fill_varbit.Given as goal

abbrev pub invariant-loop-byte : goal.invariant-loop-byte
invariant-loop-byte g l = g.B.Buffer.held l.buf ≡ g.B.Buffer.held l.fn.buf ⊕ uint32 l.len ⊕ l.yielded
