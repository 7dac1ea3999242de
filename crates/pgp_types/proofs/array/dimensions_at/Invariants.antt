use Rattle.pgp_types.proofs.Common.{◌≡◌, ◌+◌, List, length, IsBytes, ArrayDimension, Extent}
use Rattle.pgp_types.proofs.array.dimensions_at.Given as goal

abbrev pub invariant-dimensions : goal.invariant-dimensions
invariant-dimensions l =
    IsBytes l.rest
    × ((ds : List ArrayDimension) × Extent l.fn.bytes ds l.product l.rest × (length ds + l.left ≡ l.fn.count))

abbrev pub decreases-dimensions : goal.decreases-dimensions
decreases-dimensions l = l.left
