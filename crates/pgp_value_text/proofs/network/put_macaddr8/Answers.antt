use Rattle.pgp_value_text.proofs.Common.{refl, As, octets_text, macaddr8}
use Rattle.pgp_value_text.proofs.Forms.{macaddr8_sound}
use Rattle.pgp_value_text.proofs.Texts.{refused}
use Rattle.pgp_value_text.proofs.network.put_macaddr8.Goals as goal

pub returns-in-Err : goal.returns-in-Err
returns-in-Err g c = (refused macaddr8 macaddr8_sound (As octets_text) _ _ c.in-Err.ensures, refl)
