use Rattle.pgp_value_text.proofs.Common.{refl, As, tid_sound, tid_text, tid}
use Rattle.pgp_value_text.proofs.Texts.{refused}
use Rattle.pgp_value_text.proofs.bits.put_tid.Goals as goal

pub returns-in-Err : goal.returns-in-Err
returns-in-Err g c = (refused tid tid_sound (As tid_text) _ _ c.in-Err.ensures, refl)
