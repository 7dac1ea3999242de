use Rattle.pgp_types.proofs.Common.{cast_signed, ap, ◌∙◌}
use Rattle.std.proofs.Common.{w32}
use Rattle.pgp_types.proofs.Numbers.{gives_signed, int32_spelling}
use Rattle.pgp_types.proofs.scalar.int4_from_sql.Goals as goal

pub returns : goal.returns
returns c = gives_signed w32 int32_spelling _ _ c.in_ok-block.ensures _ (c.cast_signed.ensures ∙ ap (cast_signed w32) c.u32_of.ensures)
