use Rattle.pgp_values.proofs.Common.{◌≡◌, ◌≤◌, map, take, spelled, digit_value}
use Rattle.pgp_values.proofs.scan.exponent_of.Given as goal

abbrev pub invariant-loop-i : goal.invariant-loop-i
invariant-loop-i l = (l.value ≤ 1073741822) × (l.value ≡ spelled 10 (map digit_value (take l.i l.digits)))
