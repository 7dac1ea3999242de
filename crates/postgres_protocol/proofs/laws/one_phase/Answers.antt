use Rattle.pgp_frontend.proofs.ClientRuns.{one_phase as runs_phase}
use Rattle.postgres_protocol.proofs.laws.one_phase.Goals as goal

pub returns : goal.returns
returns c = runs_phase
