use Rattle.pgp_value_text.proofs.Common.{refl, IsShownDay, ShowsDay, ShowsMoment, HasText, date_value, date_value_sound}
use Rattle.pgp_value_text.proofs.Texts.{refused, tells_read}
use Rattle.pgp_value_text.proofs.Written.{day_in_range, moment_in_range, tells_told}
use Rattle.pgp_value_text.proofs.moment.put_date.Goals as goal

pub returns-in-Ok : goal.returns-in-Ok
returns-in-Ok g c =
    tells_read date_value date_value_sound (ShowsMoment ShowsDay) _ c.args.bytes.now c.in-Ok.v _ _ c.told.result c.in-Ok.ensures
    (tells_told _ _ _ (ShowsMoment ShowsDay c.in-Ok.v) (HasText IsShownDay c.in-Ok.v) (moment_in_range ShowsDay IsShownDay day_in_range c.in-Ok.v) c.date_to_text.result c.told.result c.date_to_text.ensures c.told.ensures)

pub returns-in-Err : goal.returns-in-Err
returns-in-Err g c = (refused date_value date_value_sound (ShowsMoment ShowsDay) _ _ c.in-Err.ensures, refl)
