use Rattle.for_c_auth.proofs.Common.{length}
use Rattle.for_c_auth.proofs.Kept.{Passed}
use Rattle.for_c_auth.proofs.settings.find.Given as goal

abbrev pub invariant-settings : goal.invariant-settings
invariant-settings l = Passed l.fn.name l.fn.bytes l.rest

abbrev pub decreases-settings : goal.decreases-settings
decreases-settings l = length l.rest
