use Rattle.pgp_client.proofs.Closed.{ended, not_idle, stays_closed}
use Rattle.pgp_client.proofs.pool.closed_connections_are_not_lent.Goals as goal

pub returns : goal.returns
returns c = record { ended = ended; never = λ closed now turns over f idle. not_idle now (stays_closed turns closed now over f) idle }
