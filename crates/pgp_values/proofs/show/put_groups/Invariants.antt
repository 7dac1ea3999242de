use Rattle.pgp_values.proofs.Common.{◌≡◌, ◌*◌, map, ◌⊕◌, decimal_at, run, letter}
use Rattle.pgp_values.proofs.show.put_groups.Given as goal

abbrev pub invariant-loop-i : goal.invariant-loop-i
invariant-loop-i g l = g.B.Buffer.held l.out ≡ g.B.Buffer.held l.fn.out ⊕ map letter (run (decimal_at l.d.digits) (4 * l.first) (4 * l.i))
