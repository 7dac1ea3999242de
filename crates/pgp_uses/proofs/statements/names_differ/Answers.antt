use Rattle.pgp_uses.proofs.SharedNames.{names_differ}
use Rattle.pgp_uses.proofs.statements.names_differ.Goals as goal

pub returns : goal.returns
returns c = names_differ
