use Rattle.pgp_types.proofs.Common.{w8}
use Rattle.pgp_types.proofs.Numbers.{gives_signed, int8_spelling}
use Rattle.pgp_types.proofs.scalar.char_from_sql.Goals as goal

pub returns : goal.returns
returns c = gives_signed w8 int8_spelling _ _ c.in_ok-block.ensures _ c.from_be_bytes.ensures
