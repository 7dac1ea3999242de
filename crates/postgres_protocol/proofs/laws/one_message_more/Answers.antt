use Rattle.postgres_protocol.proofs.Common.{run_more}
use Rattle.postgres_protocol.proofs.laws.one_message_more.Goals as goal

pub returns : goal.returns
returns c = run_more
