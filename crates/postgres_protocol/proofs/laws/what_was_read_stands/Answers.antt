use Rattle.postgres_protocol.proofs.Common.{runs_front}
use Rattle.postgres_protocol.proofs.laws.what_was_read_stands.Goals as goal

pub returns : goal.returns
returns c = runs_front
