use Rattle.pgp_value_text.proofs.Common.{refl, lsn, fixed_sound, uint64_spelling, As, lsn_text}
use Rattle.pgp_value_text.proofs.Texts.{refused}
use Rattle.pgp_value_text.proofs.object.put_lsn.Goals as goal

pub returns-in-Err : goal.returns-in-Err
returns-in-Err g c = (refused lsn (fixed_sound uint64_spelling) (As lsn_text) _ _ c.in-Err.ensures, refl)
