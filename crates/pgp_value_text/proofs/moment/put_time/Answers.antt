use Rattle.pgp_value_text.proofs.Common.{refl, to_z-of_z, ShowsTime, time, fixed_sound, int64_spelling}
use Rattle.pgp_value_text.proofs.Texts.{refused, tells_read}
use Rattle.pgp_value_text.proofs.moment.put_time.Goals as goal

pub returns-in-Ok : goal.returns-in-Ok
returns-in-Ok g c =
    tells_read time (fixed_sound int64_spelling) ShowsTime _ c.args.bytes.now c.in-Ok.microseconds _ _ c.put_clock.result c.in-Ok.ensures (rw (to_z-of_z c.in-Ok.ensures.0) at c.put_clock.ensures)

pub returns-in-Err : goal.returns-in-Err
returns-in-Err g c = (refused time (fixed_sound int64_spelling) ShowsTime _ _ c.in-Err.ensures, refl)
