use Rattle.postgres_protocol.proofs.Common.{◌-◌, length}
use Rattle.postgres_protocol.proofs.RowLemmas.{AreFirst}
use Rattle.postgres_protocol.proofs.laws.row.columns.Given as goal

abbrev pub invariant-columns : goal.invariant-columns
invariant-columns g l = AreFirst l.index.buffer l.index.places l.values.items

abbrev pub decreases-columns : goal.decreases-columns
decreases-columns g l = length l.index.places - length l.values.items
