use Rattle.pgp_types.proofs.HstoreLemmas.{hstore_sound}
use Rattle.pgp_types.proofs.laws.key_value_lists.Goals as goal

pub returns : goal.returns
returns c = hstore_sound
