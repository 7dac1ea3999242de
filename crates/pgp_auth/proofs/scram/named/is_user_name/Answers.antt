use Rattle.pgp_auth.proofs.Common.{sym, ◌∙◌}
use Rattle.pgp_auth.proofs.UserNames.{not_text, text_spelled}
use Rattle.pgp_auth.proofs.scram.named.is_user_name.Goals as goal

pub returns-then-not-is_text : goal.returns-then-not-is_text
returns-then-not-is_text c = not_text c.args.bytes.now (sym c.is_text.ensures ∙ c.if-not-is_text.true)

pub returns : goal.returns
returns c = text_spelled c.args.bytes.now c.is_spelled.result (sym c.is_text.ensures ∙ c.if-not-is_text.false) c.is_spelled.ensures
