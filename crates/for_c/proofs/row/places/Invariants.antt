use Rattle.for_c.proofs.Rows.{Reading}
use Rattle.for_c.proofs.row.places.Given as goal

abbrev pub invariant-values : goal.invariant-values
invariant-values l = Reading l.bytes l.end l.count l.fn.columns l.rest l.i l.columns
