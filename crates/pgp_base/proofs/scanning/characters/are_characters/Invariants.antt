use Rattle.pgp_base.proofs.Common.{◌-◌, ◌≤◌, length, take, IsUtf8}
use Rattle.pgp_base.proofs.scanning.characters.are_characters.Given as goal

abbrev pub invariant-fronts : goal.invariant-fronts
invariant-fronts l = (l.at ≤ length l.bytes) × IsUtf8 (take l.at l.bytes)

abbrev pub decreases-fronts : goal.decreases-fronts
decreases-fronts l = length l.bytes - l.at
