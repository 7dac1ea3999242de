use Rattle.pgp_values.proofs.Common.{◌-◌, length, drop, AllByRecursion, IsBlank}
use Rattle.pgp_values.proofs.scan.trimmed_back.Given as goal

abbrev pub invariant-loop-i : goal.invariant-loop-i
invariant-loop-i l = AllByRecursion IsBlank (drop (length l.bytes - l.i) l.bytes)
