use Rattle.pgp_value_text.proofs.Common.{listed, ShowsRange, range, Shows}
use Rattle.pgp_value_text.proofs.Parts.{Left}
use Rattle.pgp_value_text.proofs.range.push_ranges.Given as goal

abbrev pub invariant-members : goal.invariant-members
invariant-members g l = Left (Shows range (ShowsRange l.fn.type_oid)) listed l.fn.ranges l.fn.out.items l.place l.ranges l.out.items
