use Rattle.pgp_value_text.proofs.Common.{refl, ShowsMultirange, multirange, multirange_sound}
use Rattle.pgp_value_text.proofs.Texts.{refused, tells_read}
use Rattle.pgp_value_text.proofs.range.put_multirange.Goals as goal

pub returns-in-Ok : goal.returns-in-Ok
returns-in-Ok g c =
    tells_read multirange multirange_sound (ShowsMultirange c.args.type_oid) _ c.args.bytes.now c.in-Ok.ranges _ _ c.put_ranges.result c.in-Ok.ensures.value c.put_ranges.ensures

pub returns-in-Err : goal.returns-in-Err
returns-in-Err g c = (refused multirange multirange_sound (ShowsMultirange c.args.type_oid) _ _ c.in-Err.ensures.value, refl)
