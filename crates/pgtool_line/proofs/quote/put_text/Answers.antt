use Rattle.pgtool_line.proofs.Common.{rules, sym, ◌∙◌, length, eqb-true}
use Rattle.std.proofs.Common.{string_bytes}
use Rattle.pgtool_line.proofs.Escapes.{all_added}
use Rattle.pgtool_line.proofs.quote.put_text.Goals as goal

pub returns-clause-text : goal.returns-clause-text
returns-clause-text g c = all_added c.args.form (string_bytes c.runs.line) c.runs.rest.now _ (search rules) (eqb-true (length c.runs.rest.now) 0 (sym c.is_empty.ensures ∙ c.runs-test.false))
