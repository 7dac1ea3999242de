use Rattle.pgtrace_summary.proofs.Adding.{tables_add}
use Rattle.pgtrace_summary.proofs.laws.tables_add_up.Goals as goal

pub returns : goal.returns
returns c = tables_add
