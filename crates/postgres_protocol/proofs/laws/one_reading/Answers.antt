use Rattle.postgres_protocol.proofs.Common.{runs_one}
use Rattle.postgres_protocol.proofs.laws.one_reading.Goals as goal

pub returns : goal.returns
returns c = runs_one
