use Rattle.pgtrace_session.proofs.Summaries.{table_alone}
use Rattle.pgtrace_session.proofs.laws.summaries_are_tables.Goals as goal

pub returns : goal.returns
returns c = table_alone
