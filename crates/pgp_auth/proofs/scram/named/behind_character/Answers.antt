use Rattle.pgp_auth.proofs.Common.{sym, ◌∙◌}
use Rattle.pgp_auth.proofs.UserNames.{plain_step, no_character}
use Rattle.pgp_auth.proofs.scram.named.behind_character.Goals as goal

pub returns-then-first-eq61-clause-name : goal.returns-then-first-eq61-clause-name
returns-then-first-eq61-clause-name c = rw c.if-first-eq61.true c.behind_escape.ensures.name

pub returns-then-is_value_byte-clause-name : goal.returns-then-is_value_byte-clause-name
returns-then-is_value_byte-clause-name c = plain_step c.args.first c.args.text.now (sym c.is_value_byte.ensures ∙ c.if-is_value_byte.true)

pub returns-else-is_value_byte-clause-name : goal.returns-else-is_value_byte-clause-name
returns-else-is_value_byte-clause-name c = no_character c.args.first c.args.text.now c.if-first-eq61.false (sym c.is_value_byte.ensures ∙ c.if-is_value_byte.false)
