use Rattle.pgp_value_text.proofs.Common.{refl, decimal, oid, fixed_sound, uint32_spelling, As}
use Rattle.pgp_value_text.proofs.Texts.{refused}
use Rattle.pgp_value_text.proofs.number.put_oid.Goals as goal

pub returns-in-Err : goal.returns-in-Err
returns-in-Err g c = (refused oid (fixed_sound uint32_spelling) (As decimal) _ _ c.in-Err.ensures, refl)
