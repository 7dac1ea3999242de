use Rattle.pgtrace_summary.proofs.Common.{◌∙◌, ap, put, read}
use Rattle.pgtrace_summary.proofs.NameLemmas.{put_read}
use Rattle.pgtrace_summary.proofs.names.Names.put.Goals as goal

pub returns-clause-put : goal.returns-clause-put
returns-clause-put g c = ap (read (λ k. k.items)) c.in_ok-insert.ensures.entries ∙ put_read (λ k. k.items) c.in_ok-key.key c.args.value _ ∙ ap (λ l. put c.in_ok-key.key.items c.args.value l) c.self.view_is ∙ ap (λ n. put n c.args.value c.args.self.now) c.in_ok-key.ensures.items
