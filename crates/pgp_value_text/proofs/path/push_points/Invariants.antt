use Rattle.pgp_value_text.proofs.Common.{ShowsPoint, listed}
use Rattle.pgp_value_text.proofs.Parts.{Left}
use Rattle.pgp_value_text.proofs.path.push_points.Given as goal

abbrev pub invariant-each : goal.invariant-each
invariant-each g l = Left ShowsPoint listed l.fn.points l.fn.out.items l.place l.points l.out.items
