use Rattle.pgp_value_text.proofs.Common.{refl, signed_decimal, int4, fixed_sound, int32_spelling, As}
use Rattle.pgp_value_text.proofs.Texts.{refused}
use Rattle.pgp_value_text.proofs.number.put_int4.Goals as goal

pub returns-in-Err : goal.returns-in-Err
returns-in-Err g c = (refused int4 (fixed_sound int32_spelling) (As signed_decimal) _ _ c.in-Err.ensures, refl)
