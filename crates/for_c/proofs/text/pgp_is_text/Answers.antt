use Rattle.for_c.proofs.Common.{sym, ◌∙◌, no_string, some_none, string_none}
use Rattle.for_c.proofs.text.pgp_is_text.Goals as goal

pub returns-in-Ok-string_at-clause-zero : goal.returns-in-Ok-string_at-clause-zero
returns-in-Ok-string_at-clause-zero c z h = some_none _ (sym c.in-Ok-string_at.ensures ∙ string_none c.args.bytes.now h)

pub returns-in-Err-clause-text : goal.returns-in-Err-clause-text
returns-in-Err-clause-text c z = (c.in-Ok.ensures.1, no_string c.args.bytes.now c.in-Err.ensures.1)
