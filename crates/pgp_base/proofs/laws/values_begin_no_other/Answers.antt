use Rattle.pgp_base.proofs.Prefixes.{nullable_begins}
use Rattle.pgp_base.proofs.laws.values_begin_no_other.Goals as goal

pub returns : goal.returns
returns c = nullable_begins
