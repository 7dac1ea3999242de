use Rattle.pgp_values.proofs.Common.{◌∙◌, sym, whole_digits, fraction_digits}
use Rattle.pgp_values.proofs.TextLemmas.{has_left, has_right}
use Rattle.pgp_values.proofs.show.shows_digit.Goals as goal

pub returns-then-has_whole : goal.returns-then-has_whole
returns-then-has_whole c =
    let d = c.args.d.now in
    sym (has_left (whole_digits d.weight d.digits) (fraction_digits d) (sym c.has_whole.ensures ∙ c.if-has_whole.true))

pub returns : goal.returns
returns c =
    let d = c.args.d.now in
    c.has_fraction.ensures ∙ sym (has_right (whole_digits d.weight d.digits) (fraction_digits d) (sym c.has_whole.ensures ∙ c.if-has_whole.false))
