-- The text of a value, of a type that isn't made of others, whose bytes in binary format are given, by the number (OID) of its type: as a server shows it in UTF-8 with the settings
-- `DateStyle` `ISO`, `IntervalStyle` `iso_8601` and `TimeZone` `UTC`. Of a floating-point number: rounded, and marked where that isn't the number itself.
-- PostgreSQL manual, "Data Types": "Numeric Types", "Character Types", "Binary Data Types", "Date/Time Types", "Boolean Type", "UUID Type", "JSON Types",
-- "Object Identifier Types", "pg_lsn Type", "Network Address Types", "Bit String Types".
use Rattle.std.specs.Prelude.{◌≡◌, ℕ, from_bits, ◌+◌, ◌/◌, ◌%◌, ◌^◌, nat_eq, nat_lt, ◌==◌, ◌||◌, if◌then◌else◌, Bool, true, false, List, [], ◌∷◌, ◌++◌, codes, Option, Some, None, Result, Ok, Err}
use Rattle.std.specs.Int.{w8, cast_unsigned}
use Rattle.std.specs.Float.{binary32, binary64}
use Rattle.std.specs.Fmt.{decimal, digits, signed_decimal}
use Rattle.hex.specs.Hex.{encode_lower}
use Rattle.uuid.specs.Text.{hyphenated_text, lower}
use Rattle.pgp_types.specs.Format.{Format}
use Rattle.pgp_types.specs.Geometry.{box, point}
use Rattle.pgp_types.specs.Path.{path}
use Rattle.pgp_types.specs.Network.{inet, macaddr, uuid}
use Rattle.pgp_types.specs.Scalar.{bool, bytea, char, int2, int4, int8, oid, lsn, float4, float8}
use Rattle.pgp_types.specs.Text.{text}
use Rattle.pgp_types.specs.Time.{time}
use Rattle.pgp_types.specs.Varbit.{varbit}
use Rattle.pgp_values.specs.declared.formats.BinaryFormat.{BinaryFormat}
use Rattle.pgp_values.specs.declared.formats.BinaryFormat.TheVariants.{Bool as BoolFormat, Box as BoxFormat, Bytea as BytesFormat, Char as CharFormat, Cidr, Circle as CircleFormat, Date, Float4, Float8, Inet, Int2, Int4, Int8, Interval, Jsonb, Jsonpath, Line as LineFormat, Lseg, Lsn, Macaddr, Macaddr8, Money, Numeric, Oid, Path, Point as PointFormat, Polygon, Text as TextFormat, Tid, Time, Timestamp, Timetz, Uuid, Varbit, Xid8}
use Rattle.pgp_values.specs.Decimal.{NumericReads}
use Rattle.pgp_values.specs.DecimalText.{numeric_text}
use Rattle.pgp_values.specs.Formats.{formats}
use Rattle.pgp_values.specs.FormatTable.{format_in}
use Rattle.pgp_values.specs.Geometry.{circle, line, lseg}
use Rattle.pgp_values.specs.Moment.{date_value, interval_value, timestamp_value}
use Rattle.pgp_values.specs.Network.{cidr, macaddr8}
use Rattle.pgp_values.specs.System.{money, tid, xid8}
use Rattle.pgp_values.specs.Text.{jsonb, jsonpath}
use Rattle.pgp_values.specs.Time.{timetz}
use Rattle.pgp_value_text.specs.Bits.{bits_text, tid_text}
use Rattle.pgp_value_text.specs.Figure.{ShowsBox, ShowsCircle, ShowsLine, ShowsPath, ShowsPoint, ShowsSegment}
use Rattle.pgp_value_text.specs.Money.{money_text}
use Rattle.pgp_value_text.specs.Network.{has_netmask, network_text, octets_text}
use Rattle.pgp_value_text.specs.Span.{ShowsSpan}
use Rattle.pgp_value_text.specs.Calendar.{ShowsDay, ShowsInstant, ShowsMoment, ShowsTime}
use Rattle.pgp_value_text.specs.Float.{ShowsFloat}
use Rattle.pgp_value_text.specs.Zone.{ShowsTimeTz}

-- the bytes are read as a value that is shown so
abbrev pub Shows : {W V : Type 0} → Format W V → (V → List ℕ → Type 0) → List ℕ → List ℕ → Type 0
Shows f shown bytes text = (v : _) × f.Reads bytes (Ok v) × shown v text

-- by this text alone
abbrev pub As : {V : Type 0} → (V → List ℕ) → V → List ℕ → Type 0
As text_of v text = text ≡ text_of v

abbrev pub bool_text : Bool → List ℕ
bool_text true = codes "t"
bool_text false = codes "f"

-- a character of ASCII, nothing for 0, and a backslash and three octal digits for any other byte
abbrev pub char_text : ℕ → List ℕ
char_text byte = if byte == 0 then [] else if nat_lt byte 128 then byte ∷ []
    else 92 ∷ (48 + byte / 64) ∷ (48 + byte / 8 % 8) ∷ (48 + byte % 8) ∷ []

-- a backslash, an x, and two digits a byte
abbrev pub hex_text : List ℕ → List ℕ
hex_text bytes = 92 ∷ 120 ∷ encode_lower bytes

abbrev pub ShowsNumeric : List ℕ → List ℕ → Type 0
ShowsNumeric bytes text = (v : _) × NumericReads bytes (Ok v) × (text ≡ numeric_text v)

-- the upper and the lower 32 bits in hex
unfoldable pub lsn_text : ℕ → List ℕ
lsn_text n = digits 16 true (n / 2 ^ 32) ++ 47 ∷ digits 16 true (n % 2 ^ 32)

-- after the time of a `timestamptz`
abbrev pub zone_of : ℕ → List ℕ
zone_of type_oid = if nat_eq type_oid 1184 then codes "+00" else []

-- a polygon is a closed path, whose bytes stand after a flag
-- the text of a type with this format; where types share one and are shown otherwise, by the type
abbrev pub IsShown : BinaryFormat → ℕ → List ℕ → List ℕ → Type 0
IsShown BoolFormat type_oid = Shows bool (As bool_text)
IsShown BoxFormat type_oid = Shows box ShowsBox
IsShown BytesFormat type_oid = λ bytes text. (type_oid ≡ 17) × Shows bytea (As hex_text) bytes text
IsShown CharFormat type_oid = Shows char (As (λ z. char_text (cast_unsigned w8 z)))
IsShown Cidr type_oid = Shows cidr (As (network_text true))
IsShown CircleFormat type_oid = Shows circle ShowsCircle
IsShown Date type_oid = Shows date_value (ShowsMoment ShowsDay)
IsShown Float4 type_oid = Shows float4 (λ bits. ShowsFloat binary32 (from_bits binary32 bits))
IsShown Float8 type_oid = Shows float8 (λ bits. ShowsFloat binary64 (from_bits binary64 bits))
IsShown Inet type_oid = Shows inet (As (λ v. network_text (has_netmask v) v))
IsShown Int2 type_oid = Shows int2 (As signed_decimal)
IsShown Int4 type_oid = Shows int4 (As signed_decimal)
IsShown Int8 type_oid = Shows int8 (As signed_decimal)
IsShown Interval type_oid = Shows interval_value (ShowsMoment ShowsSpan)
IsShown Jsonb type_oid = Shows jsonb (As (λ document. document))
IsShown Jsonpath type_oid = Shows jsonpath (As (λ path. path))
IsShown LineFormat type_oid = Shows line ShowsLine
IsShown Lseg type_oid = Shows lseg ShowsSegment
IsShown Lsn type_oid = Shows lsn (As lsn_text)
IsShown Macaddr type_oid = Shows macaddr (As octets_text)
IsShown Macaddr8 type_oid = Shows macaddr8 (As octets_text)
IsShown Money type_oid = Shows money (As money_text)
IsShown Numeric type_oid = ShowsNumeric
IsShown Oid type_oid = Shows oid (As decimal)
IsShown Path type_oid = Shows path ShowsPath
IsShown PointFormat type_oid = Shows point ShowsPoint
IsShown Polygon type_oid = λ bytes text. Shows path ShowsPath (1 ∷ bytes) text
IsShown TextFormat type_oid = Shows text (As (λ shown. shown))
IsShown Tid type_oid = Shows tid (As tid_text)
IsShown Time type_oid = Shows time ShowsTime
IsShown Timestamp type_oid = Shows timestamp_value (ShowsMoment (ShowsInstant (zone_of type_oid)))
IsShown Timetz type_oid = Shows timetz ShowsTimeTz
IsShown Uuid type_oid = Shows uuid (As (hyphenated_text lower))
IsShown Varbit type_oid = Shows varbit (As bits_text)
IsShown Xid8 type_oid = Shows xid8 (As decimal)
IsShown _ type_oid = λ bytes text. ⊥

-- by the format of the type; a type that isn't known has none
abbrev pub In : (BinaryFormat → ℕ → List ℕ → List ℕ → Type 0) → Option BinaryFormat → ℕ → List ℕ → List ℕ → Type 0
In by (Some format) type_oid = by format type_oid
In by None type_oid = λ bytes text. ⊥

abbrev pub OfType : (BinaryFormat → ℕ → List ℕ → List ℕ → Type 0) → ℕ → List ℕ → List ℕ → Type 0
OfType by type_oid = In by (format_in formats type_oid) type_oid

-- of a type that isn't made of others
abbrev pub IsPlainText : ℕ → List ℕ → List ℕ → Type 0
IsPlainText = OfType IsShown

-- What a writer of such a text returns: that it appended one, or that there is none. Then the buffer is unchanged, as where an allocation failed.
abbrev pub Tells : {E : Type 0} → (List ℕ → Type 0) → Type 0 → List ℕ → List ℕ → Result Bool E → Type 0
Tells IsText lacks old new (Ok true) = (shown : List ℕ) × IsText shown × (new ≡ old ++ shown)
Tells IsText lacks old new (Ok false) = ((shown : List ℕ) → IsText shown → ⊥) × (new ≡ old)
Tells IsText lacks old new (Err e) = lacks × (new ≡ old)
