use Rattle.std.proofs.Common.{◌*◌, ◌^◌}
use Rattle.pgp_value_text.proofs.Cuts.{cut_shows}
use Rattle.pgp_value_text.proofs.size.scientific.Goals as goal

pub returns-clause-shows : goal.returns-clause-shows
returns-clause-shows c = λ a b some pos same none.
    cut_shows c.args.digits a b c.args.at (c.args.num * 10 ^ 18 * c.args.base ^ c.args.count) c.rounded_off-cut.result.number c.rounded_off-cut.result.tens pos same c.rounded_off-cut.ensures.cut none
    c.exponent_of.result some c.exponent_of.ensures.up c.exponent_of.ensures.down
