use Rattle.pgtrace_summary.proofs.Falling.{falls, kept}
use Rattle.pgtrace_summary.proofs.laws.tables_are_ranked.Goals as goal

pub returns-clause-falls : goal.returns-clause-falls
returns-clause-falls c = falls

pub returns-clause-kept : goal.returns-clause-kept
returns-clause-kept c = kept
