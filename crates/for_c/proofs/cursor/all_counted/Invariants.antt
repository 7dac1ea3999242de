use Rattle.for_c.proofs.Alls.{SoFar}
use Rattle.for_c.proofs.Common.{length}
use Rattle.for_c.proofs.cursor.all_counted.Given as goal

abbrev pub invariant-loop-at : goal.invariant-loop-at
invariant-loop-at g l = SoFar g.L.Listed.Spelled l.bytes (g.L.Listed.meaning l.bytes) (g.L.Listed.Inside (length l.bytes)) l.fn.cursor l.fn.items l.here l.at l.items
