use Rattle.pgp_values.proofs.Common.{◌≡◌, length, all_small}
use Rattle.pgp_values.proofs.digits.are_small.Given as goal

abbrev pub invariant-digits : goal.invariant-digits
invariant-digits l = all_small l.rest ≡ all_small l.fn.digits

abbrev pub decreases-digits : goal.decreases-digits
decreases-digits l = length l.rest
