use Rattle.pgp_values.proofs.Common.{take, AllByRecursion, IsDigit}
use Rattle.pgp_values.proofs.scan.digits_at.Given as goal

abbrev pub invariant-loop-i : goal.invariant-loop-i
invariant-loop-i l = AllByRecursion IsDigit (take l.i l.bytes)
