use Rattle.pgp_base.proofs.Prefixes.{text_begins}
use Rattle.pgp_base.proofs.laws.texts_begin_no_other.Goals as goal

pub returns : goal.returns
returns c = text_begins
