use Rattle.pgp_values.proofs.Common.{◌∙◌, sym, decimal_at, run, whole_places}
use Rattle.pgp_values.proofs.TextLemmas.{has_stripped}
use Rattle.pgp_values.proofs.show.has_before.Goals as goal

pub returns : goal.returns
returns c = c.has_digit_to.ensures ∙ sym (has_stripped (run (decimal_at c.args.d.now.digits) 0 (whole_places c.args.k)))
