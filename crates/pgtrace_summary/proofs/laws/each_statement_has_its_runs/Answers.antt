use Rattle.pgtrace_summary.proofs.Tallies.{all_apart, all_found}
use Rattle.pgtrace_summary.proofs.laws.each_statement_has_its_runs.Goals as goal

pub returns-clause-found : goal.returns-clause-found
returns-clause-found c = all_found

pub returns-clause-apart : goal.returns-clause-apart
returns-clause-apart c = all_apart
