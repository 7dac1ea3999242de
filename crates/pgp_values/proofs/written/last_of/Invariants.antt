use Rattle.pgp_values.proofs.Common.{◌≡◌, ◌+◌, ◌≤◌, ◌++◌, ℕ, get_or, length, map, digit_value}
use Rattle.pgp_values.proofs.written.last_of.Given as goal

abbrev pub invariant-loop-i : goal.invariant-loop-i
invariant-loop-i l = (k : ℕ) → length l.w.whole.now + length l.w.fraction.now ≤ k + l.i → get_or (map digit_value (l.w.whole.now ++ l.w.fraction.now)) k 0 ≡ 0
