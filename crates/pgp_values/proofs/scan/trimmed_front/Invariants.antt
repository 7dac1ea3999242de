use Rattle.pgp_values.proofs.Common.{take, AllByRecursion, IsBlank}
use Rattle.pgp_values.proofs.scan.trimmed_front.Given as goal

abbrev pub invariant-loop-i : goal.invariant-loop-i
invariant-loop-i l = AllByRecursion IsBlank (take l.i l.bytes)
