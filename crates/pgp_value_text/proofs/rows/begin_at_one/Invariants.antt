-- Those so far begin at 1.
use Rattle.std.specs.Prelude.{◌≡◌, length, None}
use Rattle.pgp_value_text.proofs.Common.{begins_at_one, list_all}
use Rattle.pgp_value_text.proofs.rows.begin_at_one.Given as goal

abbrev pub invariant-dimensions : goal.invariant-dimensions
invariant-dimensions l = (list_all begins_at_one l.dimensions.items ≡ list_all begins_at_one l.fn.dimensions.items) × (l.dimensions.end ≡ None)

abbrev pub decreases-dimensions : goal.decreases-dimensions
decreases-dimensions l = length l.dimensions.items
