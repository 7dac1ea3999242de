use Rattle.pgp_value_text.proofs.Common.{rules, FitsSigned, w64, ◌≡◌, ◌∙◌, ap, to_z-of_z, ShowsInstant, instant_text, in_cycle, later, microseconds_cycle, nanos_1970}
use Rattle.pgp_value_text.proofs.TextLemmas.{writes_shown}
use Rattle.pgp_value_text.proofs.calendar.instant_to_text.Goals as goal

pub returns-in-Ok : goal.returns-in-Ok
returns-in-Ok g c =
    let zone = c.args.zone.now in
    let cycle : c.instant_in_cycle.result ≡ in_cycle microseconds_cycle c.args.microseconds = rw (to_z-of_z c.ranges.microseconds) at c.instant_in_cycle.ensures in
    let years : c.instant_years_later.result ≡ later microseconds_cycle c.args.microseconds = rw (to_z-of_z c.ranges.microseconds) at c.instant_years_later.ensures.value in
    let fits : FitsSigned w64 c.instant_in_cycle.result = search rules in
    let shown : ShowsInstant zone c.args.microseconds c.as_str.result.now =
    (c.in-Ok.shown, (rw (to_z-of_z fits) at c.in-Ok.ensures.value) ∙ ap nanos_1970 cycle, c.as_str.ensures.value ∙ (c.instant_text.ensures ∙ (ap (λ n. instant_text n zone c.to_plain.result) years ∙ ap (instant_text (later microseconds_cycle c.args.microseconds) zone) c.to_plain.ensures))) in
    writes_shown _ _ _ (ShowsInstant zone c.args.microseconds) _ c.write.result c.as_str.result.now c.write.ensures shown
