use Rattle.pgtrace_summary.proofs.FoundLemmas.{apart_put, apart_without}
use Rattle.pgtrace_summary.proofs.laws.names.names_stay_apart.Goals as goal

pub returns-clause-put : goal.returns-clause-put
returns-clause-put g c = apart_put

pub returns-clause-without : goal.returns-clause-without
returns-clause-without g c = apart_without
