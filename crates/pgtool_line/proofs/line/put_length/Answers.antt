use Rattle.pgtool_line.proofs.Common.{◌≡◌, ◌∷◌, ◌++◌, ap, subst, ◌∙◌, string_bytes, OnOk, styled_decimal}
use Rattle.pgtool_line.proofs.Columns.{right_8}
use Rattle.pgtool_line.proofs.line.put_length.Goals as goal

pub returns-clause-text : goal.returns-clause-text
returns-clause-text g c =
    subst (λ l. OnOk c.push_shown.result (string_bytes c.push_shown.new.text ≡ string_bytes c.args.line.now ++ 32 ∷ l))
    (ap (λ s. styled_decimal s c.args.len) c.laid_out.ensures ∙ right_8 c.args.len) c.push_shown.ensures.bytes
