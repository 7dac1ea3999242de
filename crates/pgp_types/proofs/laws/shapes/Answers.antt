use Rattle.pgp_types.proofs.Spelling.{fixed_sound}
use Rattle.pgp_types.proofs.GeometryLemmas.{point_spelling, box_spelling}
use Rattle.pgp_types.proofs.laws.shapes.Goals as goal

pub returns-clause-of_point : goal.returns-clause-of_point
returns-clause-of_point c = fixed_sound point_spelling

pub returns-clause-of_box : goal.returns-clause-of_box
returns-clause-of_box c = fixed_sound box_spelling
