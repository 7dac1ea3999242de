use Rattle.pgp_base.proofs.Common.{◌+◌, ◌-◌, ◌≤◌, length, AreAscii}
use Rattle.pgp_base.proofs.scanning.utf8.is_long_text.Given as goal

abbrev pub invariant-lanes : goal.invariant-lanes
invariant-lanes l = (l.at + 64 ≤ length l.bytes) × AreAscii l.bytes 0 l.at

abbrev pub decreases-lanes : goal.decreases-lanes
decreases-lanes l = length l.bytes - l.at
