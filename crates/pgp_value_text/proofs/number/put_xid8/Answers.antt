use Rattle.pgp_value_text.proofs.Common.{refl, decimal, xid8, fixed_sound, uint64_spelling, As}
use Rattle.pgp_value_text.proofs.Texts.{refused}
use Rattle.pgp_value_text.proofs.number.put_xid8.Goals as goal

pub returns-in-Err : goal.returns-in-Err
returns-in-Err g c = (refused xid8 (fixed_sound uint64_spelling) (As decimal) _ _ c.in-Err.ensures, refl)
