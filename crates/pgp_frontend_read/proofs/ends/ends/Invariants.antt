use Rattle.pgp_frontend_read.proofs.Common.{◌≡◌, length}
use Rattle.pgp_frontend_read.proofs.ends.ends.Given as goal

abbrev pub invariant-items : goal.invariant-items
invariant-items g l = (g.W.FallibleIterator.walk l.walk).end ≡ (g.W.FallibleIterator.walk l.fn.walk).end

abbrev pub decreases-items : goal.decreases-items
decreases-items g l = length (g.W.FallibleIterator.walk l.walk).items
