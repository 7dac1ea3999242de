use Rattle.pgp_value_text.proofs.Common.{refl, timetz, timetz_sound, ShowsTimeTz}
use Rattle.pgp_value_text.proofs.Texts.{refused, tells_read}
use Rattle.pgp_value_text.proofs.zone.put_timetz.Goals as goal

pub returns-in-Ok : goal.returns-in-Ok
returns-in-Ok g c = tells_read timetz timetz_sound ShowsTimeTz _ c.args.bytes.now c.in-Ok.v _ _ c.put_zoned.result c.in-Ok.ensures c.put_zoned.ensures

pub returns-in-Err : goal.returns-in-Err
returns-in-Err g c = (refused timetz timetz_sound ShowsTimeTz _ _ c.in-Err.ensures, refl)
