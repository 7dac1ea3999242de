use Rattle.pgp_value_text.proofs.Common.{rules, FitsSigned, w64, to_z-of_z, IsShownInstant, ShowsInstant}
use Rattle.pgp_value_text.proofs.TextLemmas.{writes_moment}
use Rattle.pgp_value_text.proofs.calendar.moment_to_text.Goals as goal

pub returns-in-Value : goal.returns-in-Value
returns-in-Value g c =
    let fits : FitsSigned w64 c.in-Value.microseconds = search rules in
    writes_moment _ _ _ (ShowsInstant c.args.zone.now) IsShownInstant c.args.v c.in-Value.microseconds c.instant_to_text.result c.in-Value.is (rw (to_z-of_z fits) at c.instant_to_text.ensures)
