-- The types that each server has by a number of its own, and the codec that reads and writes each in its binary format: `pg_type` of PostgreSQL 19, by its
-- `typsend`; 15 to 18 have no others, and lack oid8 and regdatabase. Written by `live/types --write`.
use Rattle.std.specs.Prelude.{ℕ, List, [], ◌∷◌}
use Rattle.pgp_values.specs.declared.formats.BinaryFormat.{BinaryFormat}
use Rattle.pgp_values.specs.declared.formats.BinaryFormat.TheVariants.{Array, Bool, Box, Bytea, Char, Cidr, Circle, Date, Float4, Float8, Inet, Int2, Int4, Int8, Interval, Jsonb, Jsonpath, Line, Lseg, Lsn, Macaddr, Macaddr8, Money, Multirange, Numeric, Oid, Path, Point, Polygon, Range, Record, Snapshot, Text, Tid, Time, Timestamp, Timetz, Tsquery, Tsvector, Uuid, Varbit, Xid8}

unfoldable pub formats : List (ℕ × BinaryFormat)
formats =
    (16, Bool) ∷ (17, Bytea) ∷ (18, Char) ∷ (19, Text) ∷ (20, Int8) ∷ (21, Int2) ∷ (22, Array) ∷
    (23, Int4) ∷ (24, Oid) ∷ (25, Text) ∷ (26, Oid) ∷ (27, Tid) ∷ (28, Oid) ∷ (29, Oid) ∷
    (30, Array) ∷ (71, Record) ∷ (75, Record) ∷ (81, Record) ∷ (83, Record) ∷ (114, Text) ∷
    (142, Text) ∷ (143, Array) ∷ (194, Text) ∷ (199, Array) ∷ (210, Array) ∷ (270, Array) ∷
    (271, Array) ∷ (272, Array) ∷ (273, Array) ∷ (600, Point) ∷ (601, Lseg) ∷ (602, Path) ∷
    (603, Box) ∷ (604, Polygon) ∷ (628, Line) ∷ (629, Array) ∷ (650, Cidr) ∷ (651, Array) ∷
    (700, Float4) ∷ (701, Float8) ∷ (705, Text) ∷ (718, Circle) ∷ (719, Array) ∷ (774, Macaddr8) ∷
    (775, Array) ∷ (790, Money) ∷ (791, Array) ∷ (829, Macaddr) ∷ (869, Inet) ∷ (1000, Array) ∷
    (1001, Array) ∷ (1002, Array) ∷ (1003, Array) ∷ (1005, Array) ∷ (1006, Array) ∷ (1007, Array) ∷
    (1008, Array) ∷ (1009, Array) ∷ (1010, Array) ∷ (1011, Array) ∷ (1012, Array) ∷ (1013, Array) ∷
    (1014, Array) ∷ (1015, Array) ∷ (1016, Array) ∷ (1017, Array) ∷ (1018, Array) ∷ (1019, Array) ∷
    (1020, Array) ∷ (1021, Array) ∷ (1022, Array) ∷ (1027, Array) ∷ (1028, Array) ∷ (1034, Array) ∷
    (1040, Array) ∷ (1041, Array) ∷ (1042, Text) ∷ (1043, Text) ∷ (1082, Date) ∷ (1083, Time) ∷
    (1114, Timestamp) ∷ (1115, Array) ∷ (1182, Array) ∷ (1183, Array) ∷ (1184, Timestamp) ∷
    (1185, Array) ∷ (1186, Interval) ∷ (1187, Array) ∷ (1231, Array) ∷ (1248, Record) ∷
    (1263, Array) ∷ (1266, Timetz) ∷ (1270, Array) ∷ (1560, Varbit) ∷ (1561, Array) ∷
    (1562, Varbit) ∷ (1563, Array) ∷ (1700, Numeric) ∷ (1790, Text) ∷ (2173, Record) ∷
    (2201, Array) ∷ (2202, Oid) ∷ (2203, Oid) ∷ (2204, Oid) ∷ (2205, Oid) ∷ (2206, Oid) ∷
    (2207, Array) ∷ (2208, Array) ∷ (2209, Array) ∷ (2210, Array) ∷ (2211, Array) ∷
    (2249, Record) ∷ (2275, Text) ∷ (2277, Array) ∷ (2287, Array) ∷ (2842, Record) ∷
    (2843, Record) ∷ (2949, Array) ∷ (2950, Uuid) ∷ (2951, Array) ∷ (2970, Snapshot) ∷
    (3220, Lsn) ∷ (3221, Array) ∷ (3361, Bytea) ∷ (3402, Bytea) ∷ (3614, Tsvector) ∷
    (3615, Tsquery) ∷ (3643, Array) ∷ (3644, Array) ∷ (3645, Array) ∷ (3734, Oid) ∷ (3735, Array) ∷
    (3769, Oid) ∷ (3770, Array) ∷ (3802, Jsonb) ∷ (3807, Array) ∷ (3904, Range 23) ∷
    (3905, Array) ∷ (3906, Range 1700) ∷ (3907, Array) ∷ (3908, Range 1114) ∷ (3909, Array) ∷
    (3910, Range 1184) ∷ (3911, Array) ∷ (3912, Range 1082) ∷ (3913, Array) ∷ (3926, Range 20) ∷
    (3927, Array) ∷ (4066, Record) ∷ (4072, Jsonpath) ∷ (4073, Array) ∷ (4089, Oid) ∷
    (4090, Array) ∷ (4096, Oid) ∷ (4097, Array) ∷ (4191, Oid) ∷ (4192, Array) ∷
    (4451, Multirange 3904) ∷ (4532, Multirange 3906) ∷ (4533, Multirange 3908) ∷
    (4534, Multirange 3910) ∷ (4535, Multirange 3912) ∷ (4536, Multirange 3926) ∷ (4600, Bytea) ∷
    (4601, Bytea) ∷ (5017, Bytea) ∷ (5038, Snapshot) ∷ (5039, Array) ∷ (5069, Xid8) ∷
    (5078, Array) ∷ (6101, Record) ∷ (6150, Array) ∷ (6151, Array) ∷ (6152, Array) ∷
    (6153, Array) ∷ (6155, Array) ∷ (6157, Array) ∷ (6437, Xid8) ∷ (6442, Array) ∷ (6490, Oid) ∷
    (6491, Array) ∷
    []
