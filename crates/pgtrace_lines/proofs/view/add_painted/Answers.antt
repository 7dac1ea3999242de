use Rattle.std.proofs.Common.{string_bytes}
use Rattle.pgtrace_lines.proofs.Painted.{painted_other}
use Rattle.pgtrace_lines.proofs.view.add_painted.Goals as goal

pub returns-in_default-clause-added : goal.returns-in_default-clause-added
unfolding lib.Utf8.encode
returns-in_default-clause-added g c =
    painted_other c.add_line.result c.args.color.now c.args.line.now (string_bytes c.args.lines.now) (string_bytes c.add_line.new.lines) c.in_default.ensures.cases c.add_line.ensures.added
