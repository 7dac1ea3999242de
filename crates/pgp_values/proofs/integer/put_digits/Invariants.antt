use Rattle.pgp_values.proofs.IntegerLemmas.{Stands}
use Rattle.pgp_values.proofs.integer.put_digits.Given as goal

-- the digits that stand, and the rest before them
abbrev pub invariant-loop-rest : goal.invariant-loop-rest
invariant-loop-rest l = Stands l.digits l.at l.rest l.fn.n

abbrev pub decreases-loop-rest : goal.decreases-loop-rest
decreases-loop-rest l = l.at
