use Rattle.pgtrace_summary.proofs.FoundLemmas.{found_put}
use Rattle.pgtrace_summary.proofs.laws.names.a_name_has_what_it_was_given.Goals as goal

pub returns : goal.returns
returns g c = found_put
