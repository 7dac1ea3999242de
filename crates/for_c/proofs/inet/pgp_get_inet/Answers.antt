use Rattle.for_c.proofs.Common.{rules}
use Rattle.for_c.proofs.Addresses.{inet_behind}
use Rattle.for_c.proofs.inet.pgp_get_inet.Goals as goal

pub returns-in-Ok-clause-inside : goal.returns-in-Ok-clause-inside
returns-in-Ok-clause-inside c z = inet_behind c.args.bytes.now _ _ c.in-Ok.ensures (search rules)
