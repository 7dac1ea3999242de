use Rattle.pgp_value_text.proofs.Common.{to_z-of_z, ShowsTime, IsShownTime}
use Rattle.pgp_value_text.proofs.Written.{time_in_range, tells_told}
use Rattle.pgp_value_text.proofs.moment.put_clock.Goals as goal

pub returns : goal.returns
returns g c =
    tells_told _ _ _ (ShowsTime c.args.microseconds) (IsShownTime c.args.microseconds) (time_in_range c.args.microseconds) c.time_to_text.result c.told.result (rw (to_z-of_z c.ranges.microseconds) at c.time_to_text.ensures) c.told.ensures
