use Rattle.pgtool_line.proofs.Common.{string_bytes}
use Rattle.pgtool_line.proofs.Escapes.{pair_added}
use Rattle.pgtool_line.proofs.quote.put_units.Goals as goal

pub returns-clause-text : goal.returns-clause-text
returns-clause-text g c =
    pair_added c.put_unit-3.result (string_bytes c.args.line.now) (string_bytes c.put_unit-2.new.line) (string_bytes c.put_unit-3.new.line) c.args.c c.if-code-lt65536.false c.in_ok-put_unit.ensures.text c.put_unit-3.ensures.text
