use Rattle.pgp_values.proofs.Common.{◌≡◌, ◌<◌, ℕ, behind_point}
use Rattle.pgp_values.proofs.show.has_fraction.Given as goal

abbrev pub invariant-loop-i : goal.invariant-loop-i
invariant-loop-i l = (k : ℕ) → k < l.i → behind_point l.d.weight l.d.digits k ≡ 0
