use Rattle.pgp_types.proofs.Common.{cast_signed, w16, ap, ◌∙◌}
use Rattle.pgp_types.proofs.Numbers.{gives_signed, int16_spelling}
use Rattle.pgp_types.proofs.scalar.int2_from_sql.Goals as goal

pub returns : goal.returns
returns c = gives_signed w16 int16_spelling _ _ c.in_ok-block.ensures _ (c.cast_signed.ensures ∙ ap (cast_signed w16) c.u16_of.ensures)
