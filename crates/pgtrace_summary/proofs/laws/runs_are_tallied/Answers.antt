use Rattle.pgtrace_summary.proofs.Tallies.{all_tallied}
use Rattle.pgtrace_summary.proofs.laws.runs_are_tallied.Goals as goal

pub returns : goal.returns
returns c = all_tallied
