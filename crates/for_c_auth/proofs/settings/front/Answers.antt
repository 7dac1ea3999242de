use Rattle.for_c_auth.proofs.Common.{rules}
use Rattle.for_c_auth.proofs.Kept.{both, no_value, none_at}
use Rattle.for_c_auth.proofs.settings.front.Goals as goal

pub returns-in_default-clause-none : goal.returns-in_default-clause-none
returns-in_default-clause-none c = none_at c.args.bytes.now (search rules)

pub returns-in_default-string_at-clause-none : goal.returns-in_default-string_at-clause-none
returns-in_default-string_at-clause-none c = no_value c.args.bytes.now c.in-Ok.name.now c.in-Ok.behind.now (search rules) (search rules)

pub returns-clause-some : goal.returns-clause-some
returns-clause-some c = both c.args.bytes.now c.in-Ok.name.now c.in-Ok.behind.now (search rules) c.in-Ok-string_at.value.now c.in-Ok-string_at.rest.now (search rules)
