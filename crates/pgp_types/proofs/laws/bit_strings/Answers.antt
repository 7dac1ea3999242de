use Rattle.pgp_types.proofs.VarbitLemmas.{varbit_sound}
use Rattle.pgp_types.proofs.laws.bit_strings.Goals as goal

pub returns : goal.returns
returns c = varbit_sound
