-- Private: the values of a fixed size, as one type.
use Rattle.std.specs.Prelude.{ℕ, List}
use Rattle.pgp_types.specs.Geometry.{box, point}
use Rattle.pgp_types.specs.Network.{inet, macaddr, uuid}
use Rattle.pgp_types.specs.Range.{empty, range}
use Rattle.pgp_types.specs.Scalar.{bool, char, int2, int4, int8, oid, lsn, float4, float8}
use Rattle.pgp_types.specs.Time.{date, time, timestamp}
use Rattle.pgp_values.specs.Geometry.{circle, line, lseg}
use Rattle.pgp_values.specs.Network.{cidr, macaddr8}
use Rattle.pgp_values.specs.System.{tid}
use Rattle.pgp_values.specs.Time.{interval, timetz}
use Rattle.for_c.specs.declared.scalar.Scalar.{Scalar}
use Rattle.for_c.specs.declared.scalar.Scalar.TheVariants.{Bool, Box, Char, Cidr, Circle, Date, EmptyRange, Float4, Float8, Inet, Int2, Int4, Int8, Interval, Line, Lseg, Lsn, Macaddr, Macaddr8, Oid, Point, Tid, Time, TimeTz, Timestamp, Uuid}

-- the bytes that are written
abbrev pub spelled : Scalar → List ℕ
spelled (Bool b) = bool.written b
spelled (Box x1 y1 x2 y2) = box.written (record { upper_right = record { x = x1; y = y1 }; lower_left = record { x = x2; y = y2 } })
spelled (Char c) = char.written c
spelled (Cidr addr netmask) = cidr.written (record { addr = addr; netmask = netmask })
spelled (Circle v) = circle.written v
spelled (Date days) = date.written days
spelled EmptyRange = range.written empty
spelled (Float4 bits) = float4.written bits
spelled (Float8 bits) = float8.written bits
spelled (Inet addr netmask) = inet.written (record { addr = addr; netmask = netmask })
spelled (Int2 n) = int2.written n
spelled (Int4 n) = int4.written n
spelled (Int8 n) = int8.written n
spelled (Interval v) = interval.written v
spelled (Line v) = line.written v
spelled (Lseg v) = lseg.written v
spelled (Lsn n) = lsn.written n
spelled (Macaddr octets) = macaddr.written octets
spelled (Macaddr8 octets) = macaddr8.written octets
spelled (Oid n) = oid.written n
spelled (Point x y) = point.written (record { x = x; y = y })
spelled (Tid v) = tid.written v
spelled (Time t) = time.written t
spelled (TimeTz v) = timetz.written v
spelled (Timestamp t) = timestamp.written t
spelled (Uuid octets) = uuid.written octets
