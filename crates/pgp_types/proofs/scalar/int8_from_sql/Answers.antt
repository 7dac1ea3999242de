use Rattle.pgp_types.proofs.Common.{cast_signed, w64, ap, ◌∙◌}
use Rattle.pgp_types.proofs.Numbers.{gives_signed, int64_spelling}
use Rattle.pgp_types.proofs.scalar.int8_from_sql.Goals as goal

pub returns : goal.returns
returns c = gives_signed w64 int64_spelling _ _ c.in_ok-block.ensures _ (c.cast_signed.ensures ∙ ap (cast_signed w64) c.u64_of.ensures)
