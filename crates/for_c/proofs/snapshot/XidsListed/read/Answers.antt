use Rattle.for_c.proofs.Common.{arith, xid_part}
use Rattle.for_c.proofs.PointLists.{value_stands}
use Rattle.for_c.proofs.SnapshotWalks.{xid_long}
use Rattle.for_c.proofs.snapshot.XidsListed.read.Goals as goal

pub returns-in-Ok-clause-item : goal.returns-in-Ok-clause-item
returns-in-Ok-clause-item c bytes stands = value_stands xid_part c.args._at c.args.rest.now c.in-Ok.more.now c.in-Ok.xid c.in-Ok.ensures.xid

pub returns-in-Ok-clause-shorter : goal.returns-in-Ok-clause-shorter
returns-in-Ok-clause-shorter c = omega (arith, xid_long c.args.rest.now c.in-Ok.more.now c.in-Ok.xid c.in-Ok.ensures.xid)
