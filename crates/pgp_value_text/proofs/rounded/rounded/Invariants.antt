-- With more places it has more digits.
use Rattle.std.specs.Prelude.{ℕ, ◌+◌, ◌^◌, ◌<◌, ◌≤◌}
use Rattle.pgp_value_text.proofs.Common.{scaled}
use Rattle.pgp_value_text.proofs.rounded.rounded.Given as goal

abbrev pub invariant-places : goal.invariant-places
invariant-places l = (k : ℕ) → l.fn.digits + 3 < k + l.back → k ≤ l.fn.digits + 4 → 10 ^ l.fn.digits ≤ scaled l.fn.num (2 ^ l.fn.shift) k
