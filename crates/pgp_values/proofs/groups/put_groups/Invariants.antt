use Rattle.pgp_values.proofs.Common.{◌≡◌, ◌++◌, map, flat_map, ◌⊕◌, uint16, run, digit_value, group_down}
use Rattle.pgp_values.proofs.groups.put_groups.Given as goal

abbrev pub invariant-loop-i : goal.invariant-loop-i
invariant-loop-i g l = g.B.Buffer.held l.buf ≡ g.B.Buffer.held l.fn.buf ⊕ flat_map uint16 (run (group_down (map digit_value (l.w.whole.now ++ l.w.fraction.now)) l.g.point l.g.top) 0 l.i)
