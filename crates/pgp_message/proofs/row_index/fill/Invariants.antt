use Rattle.pgp_message.proofs.Common.{length}
use Rattle.pgp_base.proofs.Walks.{HasCollected}
use Rattle.pgp_message.proofs.row_index.fill.Given as goal

abbrev pub invariant-places : goal.invariant-places
invariant-places g l = HasCollected (λ place. place) l.fn.ranges l.places.items l.ranges

abbrev pub decreases-places : goal.decreases-places
decreases-places g l = length l.ranges.items
