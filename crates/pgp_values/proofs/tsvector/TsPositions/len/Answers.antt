use Rattle.pgp_values.proofs.Common.{sym}
use Rattle.pgp_values.proofs.Pairs.{pairs_length}
use Rattle.pgp_values.proofs.tsvector.TsPositions.len.Goals as goal

pub returns : goal.returns
returns c = rw (← c.self.view_is) (sym (pairs_length c.self.inside.0.now))
