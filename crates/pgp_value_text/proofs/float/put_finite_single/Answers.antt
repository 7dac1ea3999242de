use Rattle.pgp_value_text.proofs.Common.{◌≡◌, true, subst, binary32, float_is_finite}
use Rattle.pgp_value_text.proofs.Floats.{bits_value}
use Rattle.pgp_value_text.proofs.float.put_finite_single.Goals as goal

pub put_sized_single-requires-clause-value : goal.put_sized_single-requires-clause-value
put_sized_single-requires-clause-value g c =
    rw (c.fields-num.ensures.value, c.from.ensures, c.requires.is) (bits_value binary32 c.args.bits (subst (λ x. float_is_finite x ≡ true) c.requires.is c.requires.finite))
