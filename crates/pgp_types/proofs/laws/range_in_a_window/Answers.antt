use Rattle.pgp_types.proofs.RangeFitting.{range_lacks_at}
use Rattle.pgp_types.proofs.laws.range_in_a_window.Goals as goal

pub returns-clause-room : goal.returns-clause-room
returns-clause-room g c = range_lacks_at _ _ _ _ _ _ _ c.range_to_sql.result c.range_to_sql.ensures
