use Rattle.pgp_types.proofs.ArrayLaws.{array_sound, few_dimensions, few_elements}
use Rattle.pgp_types.proofs.laws.arrays.Goals as goal

pub returns-clause-of_array : goal.returns-clause-of_array
returns-clause-of_array c = array_sound

pub returns-clause-few : goal.returns-clause-few
returns-clause-few c = few_elements

pub returns-clause-few_dimensions : goal.returns-clause-few_dimensions
returns-clause-few_dimensions c = few_dimensions
