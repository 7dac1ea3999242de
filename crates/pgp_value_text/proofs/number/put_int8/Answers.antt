use Rattle.pgp_value_text.proofs.Common.{refl, signed_decimal, int8, fixed_sound, int64_spelling, As}
use Rattle.pgp_value_text.proofs.Texts.{refused}
use Rattle.pgp_value_text.proofs.number.put_int8.Goals as goal

pub returns-in-Err : goal.returns-in-Err
returns-in-Err g c = (refused int8 (fixed_sound int64_spelling) (As signed_decimal) _ _ c.in-Err.ensures, refl)
