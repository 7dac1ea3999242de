-- The bounds so far, and those that are left.
use Rattle.std.specs.Prelude.{◌≡◌, ◌++◌, length, None}
use Rattle.pgp_value_text.proofs.Common.{bounds_text, flat_map}
use Rattle.pgp_value_text.proofs.rows.push_each.Given as goal

abbrev pub invariant-dimensions : goal.invariant-dimensions
invariant-dimensions g l = (l.out.items ++ flat_map bounds_text l.dimensions.items ≡ l.fn.out.items ++ flat_map bounds_text l.fn.dimensions.items) × (l.dimensions.end ≡ None)

abbrev pub decreases-dimensions : goal.decreases-dimensions
decreases-dimensions g l = length l.dimensions.items
