use Rattle.pgp_value_text.proofs.Common.{refl, ⊤, ShowsMoment, ShowsSpan, interval_value, interval_value_sound}
use Rattle.pgp_value_text.proofs.Texts.{refused, tells_read}
use Rattle.pgp_value_text.proofs.Written.{tells_told}
use Rattle.pgp_value_text.proofs.moment.put_interval.Goals as goal

pub returns-in-Ok : goal.returns-in-Ok
returns-in-Ok g c =
    tells_read interval_value interval_value_sound (ShowsMoment ShowsSpan) _ c.args.bytes.now c.in-Ok.v _ _ c.told.result c.in-Ok.ensures
    (tells_told _ _ _ (ShowsMoment ShowsSpan c.in-Ok.v) ⊤ (λ t s. tt) c.interval_to_text.result c.told.result c.interval_to_text.ensures c.told.ensures)

pub returns-in-Err : goal.returns-in-Err
returns-in-Err g c = (refused interval_value interval_value_sound (ShowsMoment ShowsSpan) _ _ c.in-Err.ensures, refl)
