use Rattle.pgp_types.proofs.Spelling.{gives}
use Rattle.pgp_types.proofs.Numbers.{uint32_spelling}
use Rattle.pgp_types.proofs.scalar.float4_from_sql.Goals as goal

pub returns : goal.returns
returns c = gives uint32_spelling _ _ c.in_ok-block.ensures _ c.u32_of.ensures
