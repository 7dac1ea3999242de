use Rattle.pgp_values.proofs.Common.{◌≡◌, ◌<◌, ◌^◌, whole_value}
use Rattle.pgp_values.proofs.integer.whole_value.Given as goal

abbrev pub invariant-loop-i : goal.invariant-loop-i
invariant-loop-i l = (l.value < 2 ^ 128) × (l.value ≡ whole_value l.d.digits l.i)
