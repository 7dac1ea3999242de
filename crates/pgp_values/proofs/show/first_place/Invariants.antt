use Rattle.pgp_values.proofs.Common.{◌≡◌, ◌<◌, ℕ, decimal_at}
use Rattle.pgp_values.proofs.show.first_place.Given as goal

abbrev pub invariant-loop-i : goal.invariant-loop-i
invariant-loop-i l = (k : ℕ) → k < l.i → decimal_at l.d.digits k ≡ 0
