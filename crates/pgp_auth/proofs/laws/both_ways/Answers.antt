use Rattle.pgp_auth.proofs.BothWays.{accepts_server, never_refused}
use Rattle.pgp_auth.proofs.laws.both_ways.Goals as goal

pub returns : goal.returns
returns g c = λ old new text signature a s. (a.accepts, accepts_server old new text signature a s, never_refused _ old new text signature a s)
