use Rattle.pgp_value_text.proofs.Common.{◌∙◌, ap, inr, to_z-of_z, ShowsTime, clock_text}
use Rattle.pgp_value_text.proofs.TextLemmas.{writes_shown}
use Rattle.pgp_value_text.proofs.calendar.time_to_text.Goals as goal

pub returns-in-Ok : goal.returns-in-Ok
returns-in-Ok g c =
    let shown : ShowsTime c.args.microseconds c.as_str.result.now =
    inr (c.in-Ok.time, rw (to_z-of_z c.ranges.microseconds) at c.in-Ok.ensures.value, c.as_str.ensures.value ∙ (c.clock_text.ensures ∙ ap clock_text c.to_plain.ensures)) in
    writes_shown _ _ _ (ShowsTime c.args.microseconds) _ c.write-in-Ok.result c.as_str.result.now c.write-in-Ok.ensures shown
