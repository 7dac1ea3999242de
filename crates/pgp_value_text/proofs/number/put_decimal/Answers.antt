use Rattle.pgp_value_text.proofs.Common.{refl, numeric_text}
use Rattle.pgp_values.specs.DecimalSeen.{said}
use Rattle.pgp_value_text.proofs.Written.{lengthened_items}
use Rattle.pgp_value_text.proofs.number.put_decimal.Goals as goal

pub returns-in-Ok : goal.returns-in-Ok
returns-in-Ok g c = (numeric_text (said c.args.v.now), refl, lengthened_items _ _ _ c.in-Ok.ensures.1)
