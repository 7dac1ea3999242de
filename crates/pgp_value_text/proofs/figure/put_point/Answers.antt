use Rattle.pgp_value_text.proofs.Common.{refl, fixed_sound, ShowsPoint, point, point_spelling}
use Rattle.pgp_value_text.proofs.Texts.{refused, tells_read}
use Rattle.pgp_value_text.proofs.figure.put_point.Goals as goal

pub returns-in-Ok : goal.returns-in-Ok
returns-in-Ok g c = tells_read point (fixed_sound point_spelling) ShowsPoint _ c.args.bytes.now c.in-Ok.p _ _ c.put_pair.result c.in-Ok.ensures c.put_pair.ensures

pub returns-in-Err : goal.returns-in-Err
returns-in-Err g c = (refused point (fixed_sound point_spelling) ShowsPoint _ _ c.in-Err.ensures, refl)
