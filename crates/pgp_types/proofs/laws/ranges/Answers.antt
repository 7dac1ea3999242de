use Rattle.pgp_types.proofs.RangeLemmas.{range_sound}
use Rattle.pgp_types.proofs.laws.ranges.Goals as goal

pub returns : goal.returns
returns c = range_sound
