use Rattle.pgp_auth.proofs.Common.{length}
use Rattle.pgp_auth.proofs.scram.reading.+expect.Given as goal

abbrev pub decreases-expect : goal.decreases-expect
decreases-expect l = length l.want.now
