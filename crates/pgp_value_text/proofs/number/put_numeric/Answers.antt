use Rattle.pgp_value_text.proofs.Common.{refl}
use Rattle.pgp_value_text.proofs.Forms.{number_refused}
use Rattle.pgp_value_text.proofs.number.put_numeric.Goals as goal

pub returns-in-Err : goal.returns-in-Err
returns-in-Err g c = (number_refused _ _ c.in-Err.ensures, refl)
