use Rattle.pgp_value_text.proofs.Common.{refl, As, bits_text, varbit, varbit_sound}
use Rattle.pgp_value_text.proofs.Texts.{refused}
use Rattle.pgp_value_text.proofs.bits.put_varbit.Goals as goal

pub returns-in-Err : goal.returns-in-Err
returns-in-Err g c = (refused varbit varbit_sound (As bits_text) _ _ c.in-Err.ensures, refl)
