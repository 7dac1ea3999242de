use Rattle.pgp_uses.proofs.Common.{length}
use Rattle.pgp_uses.proofs.Places.{IsCut}
use Rattle.pgp_uses.proofs.recorder.record.Given as goal

abbrev pub invariant-frames : goal.invariant-frames
invariant-frames g l = IsCut l.bytes l.places.items l.rest l.messages

abbrev pub decreases-frames : goal.decreases-frames
decreases-frames g l = length l.messages
