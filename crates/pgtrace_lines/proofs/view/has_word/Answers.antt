use Rattle.pgtrace_lines.proofs.Common.{◌∙◌}
use Rattle.pgtrace_lines.proofs.Named.{any_mapped}
use Rattle.pgtrace_lines.proofs.view.has_word.Goals as goal

pub returns : goal.returns
returns c = c.contains.ensures.value ∙ any_mapped c.args.has.now c.args.word.now
