use Rattle.pgp_types.proofs.Spelling.{gives}
use Rattle.pgp_types.proofs.Numbers.{uint64_spelling}
use Rattle.pgp_types.proofs.scalar.lsn_from_sql.Goals as goal

pub returns : goal.returns
returns c = gives uint64_spelling _ _ c.in_ok-block.ensures _ c.u64_of.ensures
