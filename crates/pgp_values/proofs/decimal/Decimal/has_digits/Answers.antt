use Rattle.pgp_values.proofs.Common.{pairs}
use Rattle.pgp_values.proofs.Pairs.{small_yes}
use Rattle.pgp_values.proofs.decimal.Decimal.has_digits.Goals as goal

pub returns : goal.returns
returns c = rw (← c.self.view_is) (small_yes (pairs c.self.inside.digits.now) c.self.invariant.1.0)
