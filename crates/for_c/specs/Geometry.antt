-- Points, boxes, lines, segments, circles and places of rows, as C has them.
use Rattle.pgp_types.specs.Geometry.{Box, Point}
use Rattle.pgp_values.specs.declared.geometry.Circle.{Circle}
use Rattle.pgp_values.specs.declared.geometry.Line.{Line}
use Rattle.pgp_values.specs.declared.geometry.Segment.{Segment}
use Rattle.pgp_values.specs.declared.system.Tid.{Tid}
use Rattle.for_c.specs.declared.geometry.PgpBox.{PgpBox}
use Rattle.for_c.specs.declared.geometry.PgpCircle.{PgpCircle}
use Rattle.for_c.specs.declared.geometry.PgpLine.{PgpLine}
use Rattle.for_c.specs.declared.geometry.PgpLseg.{PgpLseg}
use Rattle.for_c.specs.declared.geometry.PgpPoint.{PgpPoint}
use Rattle.for_c.specs.declared.system.PgpTid.{PgpTid}

abbrev pub point_of : PgpPoint → Point
point_of p = record { x = p.x; y = p.y }

abbrev pub box_of : PgpBox → Box
box_of b = record { upper_right = point_of b.upper_right; lower_left = point_of b.lower_left }

abbrev pub line_of : PgpLine → Line
line_of l = record { a = l.a; b = l.b; c = l.c }

abbrev pub segment_of : PgpLseg → Segment
segment_of s = record { x1 = s.start.x; y1 = s.start.y; x2 = s.end.x; y2 = s.end.y }

abbrev pub circle_of : PgpCircle → Circle
circle_of c = record { x = c.center.x; y = c.center.y; radius = c.radius }

abbrev pub tid_of : PgpTid → Tid
tid_of t = record { block = t.block; offset = t.offset }
