use Rattle.postgres_protocol.proofs.Common.{runs_bytes}
use Rattle.postgres_protocol.proofs.laws.one_spelling.Goals as goal

pub returns : goal.returns
returns c = runs_bytes
