use Rattle.for_c.proofs.Common.{arith, point_part, point_of}
use Rattle.for_c.proofs.PointLists.{point_long, value_stands}
use Rattle.for_c.proofs.points.PointsListed.read.Goals as goal

pub returns-in-Ok-clause-item : goal.returns-in-Ok-clause-item
returns-in-Ok-clause-item c bytes stands = value_stands point_part c.args._at c.args.rest.now c.in-Ok.more.now (point_of c.in-Ok.point) c.in-Ok.ensures.point

pub returns-in-Ok-clause-shorter : goal.returns-in-Ok-clause-shorter
returns-in-Ok-clause-shorter c = omega (arith, point_long c.args.rest.now c.in-Ok.more.now (point_of c.in-Ok.point) c.in-Ok.ensures.point)
