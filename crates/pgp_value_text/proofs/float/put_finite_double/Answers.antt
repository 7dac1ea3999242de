use Rattle.pgp_value_text.proofs.Common.{◌≡◌, true, subst, binary64, float_is_finite}
use Rattle.pgp_value_text.proofs.Floats.{bits_value}
use Rattle.pgp_value_text.proofs.float.put_finite_double.Goals as goal

pub put_sized_double-requires-clause-value : goal.put_sized_double-requires-clause-value
put_sized_double-requires-clause-value g c =
    rw (c.fields-num.ensures.value, c.requires.is) (bits_value binary64 c.args.bits (subst (λ x. float_is_finite x ≡ true) c.requires.is c.requires.finite))
