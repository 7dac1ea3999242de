use Rattle.pgp_uses.proofs.Common.{◌++◌}
use Rattle.pgp_stream.proofs.Readings.{has_read_more}
use Rattle.pgp_uses.proofs.streams.completed.Goals as goal

pub returns-clause-read : goal.returns-clause-read
returns-clause-read g c = λ bytes taken h. c.take.ensures.reads (bytes ++ c.args.piece.now) taken (has_read_more _ _ _ c.in_ok-feed.ensures bytes taken h)
