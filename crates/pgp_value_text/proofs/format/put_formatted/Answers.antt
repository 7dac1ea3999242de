use Rattle.pgp_value_text.proofs.format.put_formatted.Goals as goal

pub returns-in-Bool : goal.returns-in-Bool
returns-in-Bool g c = rw c.in-Bool.is c.put_bool.ensures

pub returns-in-Bytea : goal.returns-in-Bytea
returns-in-Bytea g c = rw c.in-Bytea.is c.put_bytea.ensures

pub returns-in-Date : goal.returns-in-Date
returns-in-Date g c = rw c.in-Date.is c.put_date.ensures

pub returns-in-Int2 : goal.returns-in-Int2
returns-in-Int2 g c = rw c.in-Int2.is c.put_int2.ensures

pub returns-in-Int4 : goal.returns-in-Int4
returns-in-Int4 g c = rw c.in-Int4.is c.put_int4.ensures

pub returns-in-Int8 : goal.returns-in-Int8
returns-in-Int8 g c = rw c.in-Int8.is c.put_int8.ensures

pub returns-in-Interval : goal.returns-in-Interval
returns-in-Interval g c = rw c.in-Interval.is c.put_interval.ensures

pub returns-in-Jsonb : goal.returns-in-Jsonb
returns-in-Jsonb g c = rw c.in-Jsonb.is c.put_jsonb.ensures

pub returns-in-Jsonpath : goal.returns-in-Jsonpath
returns-in-Jsonpath g c = rw c.in-Jsonpath.is c.put_jsonpath.ensures

pub returns-in-Lsn : goal.returns-in-Lsn
returns-in-Lsn g c = rw c.in-Lsn.is c.put_lsn.ensures

pub returns-in-Numeric : goal.returns-in-Numeric
returns-in-Numeric g c = rw c.in-Numeric.is c.put_numeric.ensures

pub returns-in-Oid : goal.returns-in-Oid
returns-in-Oid g c = rw c.in-Oid.is c.put_oid.ensures

pub returns-in-Text : goal.returns-in-Text
returns-in-Text g c = rw c.in-Text.is c.put_text.ensures

pub returns-in-Time : goal.returns-in-Time
returns-in-Time g c = rw c.in-Time.is c.put_time.ensures

pub returns-in-Timestamp : goal.returns-in-Timestamp
returns-in-Timestamp g c = rw c.in-Timestamp.is c.put_timestamp.ensures

pub returns-in-Uuid : goal.returns-in-Uuid
returns-in-Uuid g c = rw c.in-Uuid.is c.put_uuid.ensures

pub returns-in-Xid8 : goal.returns-in-Xid8
returns-in-Xid8 g c = rw c.in-Xid8.is c.put_xid8.ensures

pub returns-in-Float4 : goal.returns-in-Float4
returns-in-Float4 g c = rw c.in-Float4.is c.put_float4.ensures

pub returns-in-Float8 : goal.returns-in-Float8
returns-in-Float8 g c = rw c.in-Float8.is c.put_float8.ensures

pub returns-in-Char : goal.returns-in-Char
returns-in-Char g c = rw c.in-Char.is c.put_char.ensures

pub returns-in-Timetz : goal.returns-in-Timetz
returns-in-Timetz g c = rw c.in-Timetz.is c.put_timetz.ensures

pub returns-in-Cidr : goal.returns-in-Cidr
returns-in-Cidr g c = rw c.in-Cidr.is c.put_cidr.ensures

pub returns-in-Inet : goal.returns-in-Inet
returns-in-Inet g c = rw c.in-Inet.is c.put_inet.ensures

pub returns-in-Macaddr : goal.returns-in-Macaddr
returns-in-Macaddr g c = rw c.in-Macaddr.is c.put_macaddr.ensures

pub returns-in-Macaddr8 : goal.returns-in-Macaddr8
returns-in-Macaddr8 g c = rw c.in-Macaddr8.is c.put_macaddr8.ensures

pub returns-in-Tid : goal.returns-in-Tid
returns-in-Tid g c = rw c.in-Tid.is c.put_tid.ensures

pub returns-in-Varbit : goal.returns-in-Varbit
returns-in-Varbit g c = rw c.in-Varbit.is c.put_varbit.ensures

pub returns-in-Money : goal.returns-in-Money
returns-in-Money g c = rw c.in-Money.is c.put_money.ensures

pub returns-in-Box : goal.returns-in-Box
returns-in-Box g c = rw c.in-Box.is c.put_box.ensures

pub returns-in-Circle : goal.returns-in-Circle
returns-in-Circle g c = rw c.in-Circle.is c.put_circle.ensures

pub returns-in-Line : goal.returns-in-Line
returns-in-Line g c = rw c.in-Line.is c.put_line.ensures

pub returns-in-Lseg : goal.returns-in-Lseg
returns-in-Lseg g c = rw c.in-Lseg.is c.put_lseg.ensures

pub returns-in-Path : goal.returns-in-Path
returns-in-Path g c = rw c.in-Path.is c.put_path.ensures

pub returns-in-Point : goal.returns-in-Point
returns-in-Point g c = rw c.in-Point.is c.put_point.ensures

pub returns-in-Polygon : goal.returns-in-Polygon
returns-in-Polygon g c = rw c.in-Polygon.is c.put_polygon.ensures
