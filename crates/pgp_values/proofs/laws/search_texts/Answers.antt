use Rattle.pgp_values.proofs.LexemeLemmas.{tsvector_sound}
use Rattle.pgp_values.proofs.laws.search_texts.Goals as goal

pub returns : goal.returns
returns c = tsvector_sound
