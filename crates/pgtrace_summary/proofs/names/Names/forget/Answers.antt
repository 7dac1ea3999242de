use Rattle.pgtrace_summary.proofs.Common.{◌∙◌, ap, read, without}
use Rattle.pgtrace_summary.proofs.NameLemmas.{without_read}
use Rattle.pgtrace_summary.proofs.names.Names.forget.Goals as goal

pub returns : goal.returns
returns g c = ap (read (λ k. k.items)) c.swap_remove.ensures.entries ∙ without_read (λ k. k.items) c.args.name.now _ ∙ ap (without c.args.name.now) c.self.view_is
