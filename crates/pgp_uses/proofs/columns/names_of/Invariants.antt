use Rattle.pgp_uses.proofs.Common.{◌≡◌, map, take}
use Rattle.pgp_uses.proofs.columns.names_of.Given as goal

abbrev pub invariant-loop-column : goal.invariant-loop-column
invariant-loop-column g l = map (λ name. name.now) l.found.items ≡ map (λ column. column.name) (take l.column-index l.columns)
