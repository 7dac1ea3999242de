use Rattle.pgp_uses.proofs.Common.{length, Passed}
use Rattle.pgp_uses.proofs.columns.description.Given as goal

abbrev pub invariant-frames : goal.invariant-frames
invariant-frames l = Passed l.bytes l.messages

abbrev pub decreases-frames : goal.decreases-frames
decreases-frames l = length l.messages
