use Rattle.pgp_message.proofs.Common.{◌≡◌, place_at}
use Rattle.pgp_message.proofs.row_index.nth.Given as goal

abbrev pub invariant-columns : goal.invariant-columns
invariant-columns l = place_at l.ranges.items l.ranges.end l.left ≡ place_at l.fn.ranges.items l.fn.ranges.end l.fn.i

abbrev pub decreases-columns : goal.decreases-columns
decreases-columns l = l.left
