use Rattle.pgtrace_summary.proofs.FoundLemmas.{found_without}
use Rattle.pgtrace_summary.proofs.laws.names.a_forgotten_name_has_nothing.Goals as goal

pub returns : goal.returns
returns g c = found_without
