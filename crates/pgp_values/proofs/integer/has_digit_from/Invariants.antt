use Rattle.pgp_values.proofs.Common.{◌≡◌, ◌<◌, ◌≤◌, ℕ, digit_in}
use Rattle.pgp_values.proofs.integer.has_digit_from.Given as goal

abbrev pub invariant-loop-i : goal.invariant-loop-i
invariant-loop-i l = (k : ℕ) → l.from ≤ k → k < l.i → digit_in l.d.digits k ≡ 0
