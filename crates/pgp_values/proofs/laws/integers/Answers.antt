use Rattle.pgp_values.proofs.IntegerLemmas.{one_integer}
use Rattle.pgp_values.proofs.KeptLemmas.{integer_is_kept}
use Rattle.pgp_values.proofs.laws.integers.Goals as goal

pub returns-clause-one : goal.returns-clause-one
returns-clause-one c = one_integer

pub returns-clause-kept : goal.returns-clause-kept
returns-clause-kept c = integer_is_kept
