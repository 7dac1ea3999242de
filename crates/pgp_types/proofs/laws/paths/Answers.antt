use Rattle.pgp_types.proofs.PathLemmas.{path_sound}
use Rattle.pgp_types.proofs.laws.paths.Goals as goal

pub returns : goal.returns
returns c = path_sound
