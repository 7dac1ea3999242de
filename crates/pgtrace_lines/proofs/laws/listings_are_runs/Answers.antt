use Rattle.pgtrace_lines.proofs.Runs.{run_behind, run_of}
use Rattle.pgtrace_lines.proofs.laws.listings_are_runs.Goals as goal

pub returns-clause-beginning : goal.returns-clause-beginning
returns-clause-beginning c = run_behind

pub returns-clause-messages : goal.returns-clause-messages
returns-clause-messages c = run_of
