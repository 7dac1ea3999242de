-- The braces so far, and those of the parts that are left.
use Rattle.std.specs.Prelude.{◌≡◌, ◌++◌, length, None}
use Rattle.pgp_value_text.proofs.Common.{braces}
use Rattle.pgp_value_text.proofs.rows.push_braces.Given as goal

abbrev pub invariant-rows : goal.invariant-rows
invariant-rows g l = (l.out.items ++ braces l.fn.brace l.row l.dimensions.items l.fn.place ≡ l.fn.out.items ++ braces l.fn.brace l.fn.size l.fn.dimensions.items l.fn.place) × (l.dimensions.end ≡ None)

abbrev pub decreases-rows : goal.decreases-rows
decreases-rows g l = length l.dimensions.items
