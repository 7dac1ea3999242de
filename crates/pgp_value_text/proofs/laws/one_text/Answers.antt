use Rattle.pgp_value_text.proofs.Any.{one_text}
use Rattle.pgp_value_text.proofs.laws.one_text.Goals as goal

pub returns : goal.returns
returns c = one_text c.arrays.ensures.of_array
