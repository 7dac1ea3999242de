-- What the limbs so far begin with.
use Rattle.std.proofs.Common.{◌-◌, ◌≤◌, length, drop}
use Rattle.pgp_value_text.specs.Tens.{value_of, BeginsWith}
use Rattle.pgp_value_text.proofs.tens.front_of.Given as goal

abbrev pub invariant-limbs : goal.invariant-limbs
invariant-limbs l = BeginsWith l.front.number l.front.more l.front.limbs (value_of (drop (length l.limbs - l.back) l.limbs)) × (l.front.limbs ≤ l.back)
