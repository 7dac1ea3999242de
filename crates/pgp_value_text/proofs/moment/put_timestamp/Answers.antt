use Rattle.pgp_value_text.proofs.Common.{refl, ShowsInstant, ShowsMoment, timestamp_value, timestamp_value_sound, zone_of}
use Rattle.pgp_value_text.proofs.Texts.{refused, tells_read}
use Rattle.pgp_value_text.proofs.moment.put_timestamp.Goals as goal

pub returns-in-Ok : goal.returns-in-Ok
returns-in-Ok g c =
    tells_read timestamp_value timestamp_value_sound (ShowsMoment (ShowsInstant (zone_of c.args.type_oid))) _ c.args.bytes.now c.in-Ok.v _ _ c.put_moment.result c.in-Ok.ensures c.put_moment.ensures

pub returns-in-Err : goal.returns-in-Err
returns-in-Err g c = (refused timestamp_value timestamp_value_sound (ShowsMoment (ShowsInstant (zone_of c.args.type_oid))) _ _ c.in-Err.ensures, refl)
