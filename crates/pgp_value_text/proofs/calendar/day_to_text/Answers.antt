use Rattle.pgp_value_text.proofs.Common.{rules, FitsSigned, w32, ◌≡◌, ◌∙◌, ap, to_z-of_z, ShowsDay, date_text, day_1970, in_cycle, later, days_cycle}
use Rattle.pgp_value_text.proofs.TextLemmas.{writes_shown}
use Rattle.pgp_value_text.proofs.calendar.day_to_text.Goals as goal

pub returns-in-Ok : goal.returns-in-Ok
returns-in-Ok g c =
    let cycle : c.day_in_cycle.result ≡ in_cycle days_cycle c.args.days = rw (to_z-of_z c.ranges.days) at c.day_in_cycle.ensures in
    let years : c.years_later.result ≡ later days_cycle c.args.days = rw (to_z-of_z c.ranges.days) at c.years_later.ensures.value in
    let fits : FitsSigned w32 c.day_in_cycle.result = search rules in
    let shown : ShowsDay c.args.days c.as_str.result.now =
    (c.in-Ok.date, (rw (to_z-of_z fits) at c.in-Ok.ensures.value) ∙ ap day_1970 cycle, c.as_str.ensures.value ∙ (c.date_text.ensures ∙ (ap (λ n. date_text n c.to_plain.result) years ∙ ap (date_text (later days_cycle c.args.days)) c.to_plain.ensures))) in
    writes_shown _ _ _ (ShowsDay c.args.days) _ c.write.result c.as_str.result.now c.write.ensures shown
