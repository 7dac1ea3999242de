use Rattle.pgp_value_text.proofs.Common.{refl, signed_decimal, int2, fixed_sound, int16_spelling, As}
use Rattle.pgp_value_text.proofs.Texts.{refused}
use Rattle.pgp_value_text.proofs.number.put_int2.Goals as goal

pub returns-in-Err : goal.returns-in-Err
returns-in-Err g c = (refused int2 (fixed_sound int16_spelling) (As signed_decimal) _ _ c.in-Err.ensures, refl)
