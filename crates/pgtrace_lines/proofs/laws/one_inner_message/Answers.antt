use Rattle.pgtrace_lines.proofs.Inners.{one_inner}
use Rattle.pgtrace_lines.proofs.laws.one_inner_message.Goals as goal

pub returns : goal.returns
returns c = one_inner
