use Rattle.pgp_types.proofs.Readings.{text_sound, label_sound}
use Rattle.pgp_types.proofs.laws.texts.Goals as goal

pub returns-clause-of_text : goal.returns-clause-of_text
returns-clause-of_text c = text_sound

pub returns-clause-of_ltree : goal.returns-clause-of_ltree
returns-clause-of_ltree c = label_sound 1

pub returns-clause-of_lquery : goal.returns-clause-of_lquery
returns-clause-of_lquery c = label_sound 1

pub returns-clause-of_ltxtquery : goal.returns-clause-of_ltxtquery
returns-clause-of_ltxtquery c = label_sound 1
