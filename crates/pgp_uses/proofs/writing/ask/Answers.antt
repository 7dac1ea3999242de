use Rattle.pgp_uses.proofs.Room.{for_memory}
use Rattle.pgp_uses.proofs.Common.{Query}
use Rattle.pgp_uses.proofs.writing.ask.Goals as goal

pub returns-clause-cause : goal.returns-clause-cause
returns-clause-cause g c = for_memory g.A.Memory.Lacks (Query c.args.text.now) _ _ c.query.result c.query.ensures
