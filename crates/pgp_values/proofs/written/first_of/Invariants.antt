use Rattle.pgp_values.proofs.Common.{◌++◌, map, digit_value, NoneTo}
use Rattle.pgp_values.proofs.written.first_of.Given as goal

abbrev pub invariant-loop-i : goal.invariant-loop-i
invariant-loop-i l = NoneTo l.i (map digit_value (l.w.whole.now ++ l.w.fraction.now))
