use Rattle.pgtrace_summary.proofs.Common.{◌∙◌, ap, found}
use Rattle.pgtrace_summary.proofs.NameLemmas.{found_read}
use Rattle.pgtrace_summary.proofs.names.Names.get.Goals as goal

pub returns : goal.returns
returns g c = c.get.ensures.value ∙ found_read (λ k. k.items) c.args.name.now _ ∙ ap (found c.args.name.now) c.self.view_is
