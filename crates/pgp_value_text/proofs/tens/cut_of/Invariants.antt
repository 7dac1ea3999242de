-- With fewer tens it has more digits.
use Rattle.std.proofs.Common.{◌*◌, ◌^◌, ◌<◌, ◌≤◌, ℕ}
use lib.Ieee.Nearest.{closest}
use Rattle.pgp_value_text.proofs.tens.cut_of.Given as goal

abbrev pub invariant-tens : goal.invariant-tens
invariant-tens l = (k : ℕ) → 0 < k → k < l.tens → 10 ^ l.fn.digits ≤ closest l.fn.doubled (2 * 10 ^ k)
