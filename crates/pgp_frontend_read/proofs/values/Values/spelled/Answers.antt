use Rattle.pgp_frontend_read.proofs.Common.{SomeValues, ◌++◌}
use Rattle.pgp_frontend_read.proofs.Spelled.{part_has, part_whole}
use Rattle.pgp_frontend_read.proofs.values.Values.spelled.Goals as goal

pub returns-clause-has : goal.returns-clause-has
returns-clause-has c = part_has SomeValues (c.spelled.result.0 ++ c.spelled.result.1.now) c.args.self.now c.spelled.ensures.bytes (rw (← c.self.view_is) c.spelled.ensures.read)

pub returns-clause-whole : goal.returns-clause-whole
returns-clause-whole c = part_whole SomeValues (c.spelled.result.0 ++ c.spelled.result.1.now) c.args.self.now c.spelled.ensures.bytes (rw (← c.self.view_is) c.spelled.ensures.read)
