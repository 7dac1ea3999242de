use Rattle.pgp_value_text.proofs.Common.{rules, FitsSigned, w32, to_z-of_z, IsShownDay, ShowsDay}
use Rattle.pgp_value_text.proofs.TextLemmas.{writes_moment}
use Rattle.pgp_value_text.proofs.calendar.date_to_text.Goals as goal

pub returns-in-Value : goal.returns-in-Value
returns-in-Value g c =
    let fits : FitsSigned w32 c.in-Value.days = search rules in
    writes_moment _ _ _ ShowsDay IsShownDay c.args.v c.in-Value.days c.day_to_text.result c.in-Value.is (rw (to_z-of_z fits) at c.day_to_text.ensures)
