use Rattle.postgres_protocol.proofs.Common.{no_run}
use Rattle.postgres_protocol.proofs.laws.no_empty_name.Goals as goal

pub returns : goal.returns
returns c = no_run
