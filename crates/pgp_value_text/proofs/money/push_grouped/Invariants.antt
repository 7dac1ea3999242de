-- What is left is to be added.
use Rattle.std.specs.Prelude.{◌≡◌, ◌++◌, length}
use Rattle.pgp_value_text.proofs.Common.{grouped}
use Rattle.pgp_value_text.proofs.money.push_grouped.Given as goal

abbrev pub invariant-digits : goal.invariant-digits
invariant-digits g l = l.out.items ++ grouped l.rest ≡ l.fn.out.items ++ grouped l.digits

abbrev pub decreases-digits : goal.decreases-digits
decreases-digits g l = length l.rest
