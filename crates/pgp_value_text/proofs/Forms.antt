-- A value of each format has one text.
use Rattle.pgp_value_text.proofs.Common.{◌≡◌, ℕ, ℤ, true, List, Option, Some, None, Ok, Err, refl, sym, ap, ◌∙◌, subst, IfOk, IsErr, false≢true, decimal, signed_decimal, hyphenated_text, lower, bool, bytea, char, int2, int4, int8, float4, float8, from_bits, binary32, binary64, ShowsFloat, oid, lsn, time, fixed_sound, int8_spelling, int16_spelling, int32_spelling, int64_spelling, uint32_spelling, uint64_spelling, numeric_text, date_value, timestamp_value, xid8, interval_value, timetz, Moment, PosInfinity, NegInfinity, Value, timetz_sound, date_value_sound, interval_value_sound, timestamp_value_sound, ShowsSpan, span_text, ShowsDay, ShowsInstant, ShowsMoment, ShowsTime, bool_text, char_text, hex_text, lsn_text, zone_of, As, IsPlainText, IsShown, In, ShowsNumeric, ShowsTimeTz, ◌∷◌, ShowsBox, ShowsCircle, ShowsLine, ShowsPath, ShowsPoint, ShowsSegment, circle_sound, line_sound, lseg_sound, tid_sound, has_netmask, network_text, octets_text, box, point, circle, line, lseg, bits_text, tid_text, path, IsSound, BinaryFormat, formats, format_in, box_spelling, point_spelling, inet, macaddr, uuid, inet_sound, money, tid, money_text, path_sound, varbit, varbit_sound, macaddr8}
use Rattle.pgp_value_text.proofs.Uniqueness.{one_date, one_instant, one_time}
use Rattle.std.specs.Int.{w8, cast_unsigned}
use Rattle.pgp_types.specs.Text.{text}
use Rattle.pgp_types.proofs.Readings.{all_sound, bool_sound, label_sound, text_sound, whole_sound}
use Rattle.pgp_values.specs.declared.formats.BinaryFormat.TheVariants.{Bool as BoolFormat, Box as BoxFormat, Bytea as BytesFormat, Char as CharFormat, Cidr, Circle as CircleFormat, Date, Float4, Float8, Inet, Int2, Int4, Int8, Interval, Jsonb, Jsonpath, Line as LineFormat, Lseg, Lsn, Macaddr, Macaddr8, Money, Numeric, Oid, Path, Point as PointFormat, Polygon, Text as TextFormat, Tid, Time, Timestamp, Timetz, Uuid, Varbit, Xid8}
use Rattle.pgp_values.specs.Decimal.{NumericReads}
use Rattle.pgp_values.specs.Text.{jsonb, jsonpath}
use Rattle.pgp_values.specs.declared.error.NumericError.{NumericError}
use Rattle.pgp_values.proofs.DecimalLemmas.{one_numeric}
use Rattle.pgp_value_text.proofs.Figures.{one_box, one_circle, one_line, one_path, one_point, one_segment}
use Rattle.pgp_value_text.proofs.Floats.{one_float}
use Rattle.pgp_value_text.proofs.Texts.{one_as, one_shown}
use Rattle.pgp_value_text.proofs.Zones.{one_zoned}

pub macaddr8_sound : IsSound macaddr8
macaddr8_sound = fixed_sound (record { sized = λ v has. has.1; has = λ bytes small l. (small, l); spelled = λ bytes small l. refl; again = λ v has. refl })

one_moment : {T : Type 0} (shows : T → List ℕ → Type 0) → ((n : T) (a b : List ℕ) → shows n a → shows n b → a ≡ b) → (v : Moment T) (a b : List ℕ) → ShowsMoment shows v a → ShowsMoment shows v b → a ≡ b
one_moment shows h PosInfinity a b s t = s ∙ sym t
one_moment shows h NegInfinity a b s t = s ∙ sym t
one_moment shows h (Value n) a b s t = h n a b s t

one_number : (bytes a b : List ℕ) → ShowsNumeric bytes a → ShowsNumeric bytes b → a ≡ b
one_number bytes a b s t =
    let same : s.0 ≡ t.0 = subst (λ r. IfOk r (λ v. s.0 ≡ v)) (one_numeric bytes (Ok s.0) (Ok t.0) s.1 t.1) refl in
    s.2 ∙ (ap numeric_text same ∙ sym t.2)

-- bytes that are no number have no text
pub number_refused : (bytes : List ℕ) (e : NumericError) → NumericReads bytes (Err e) → (t : List ℕ) → ShowsNumeric bytes t → ⊥
number_refused bytes e r t s = false≢true (subst IsErr (one_numeric bytes (Err e) (Ok s.0) r s.1) refl)

pub one_formatted : (f : BinaryFormat) (type_oid : ℕ) (bytes a b : List ℕ) → IsShown f type_oid bytes a → IsShown f type_oid bytes b → a ≡ b
one_formatted BoolFormat n = one_shown bool bool_sound (As bool_text) (one_as bool_text)
one_formatted BoxFormat n = one_shown box (fixed_sound box_spelling) ShowsBox one_box
one_formatted BytesFormat n = λ bytes a b s t. one_shown bytea all_sound (As hex_text) (one_as hex_text) bytes a b s.1 t.1
one_formatted CharFormat n = one_shown char (fixed_sound int8_spelling) (As (λ z. char_text (cast_unsigned w8 z))) (one_as (λ z. char_text (cast_unsigned w8 z)))
one_formatted Cidr n = one_shown inet inet_sound (As (network_text true)) (one_as (network_text true))
one_formatted CircleFormat n = one_shown circle circle_sound ShowsCircle one_circle
one_formatted Date n = one_shown date_value date_value_sound (ShowsMoment ShowsDay) (one_moment ShowsDay one_date)
one_formatted Float4 n = one_shown float4 (fixed_sound uint32_spelling) (λ bits. ShowsFloat binary32 (from_bits binary32 bits)) (λ bits. one_float binary32 (from_bits binary32 bits))
one_formatted Float8 n = one_shown float8 (fixed_sound uint64_spelling) (λ bits. ShowsFloat binary64 (from_bits binary64 bits)) (λ bits. one_float binary64 (from_bits binary64 bits))
one_formatted Inet n = one_shown inet inet_sound (As (λ v. network_text (has_netmask v) v)) (one_as (λ v. network_text (has_netmask v) v))
one_formatted Int2 n = one_shown int2 (fixed_sound int16_spelling) (As signed_decimal) (one_as signed_decimal)
one_formatted Int4 n = one_shown int4 (fixed_sound int32_spelling) (As signed_decimal) (one_as signed_decimal)
one_formatted Int8 n = one_shown int8 (fixed_sound int64_spelling) (As signed_decimal) (one_as signed_decimal)
one_formatted Interval n = one_shown interval_value interval_value_sound (ShowsMoment ShowsSpan) (one_moment ShowsSpan (one_as span_text))
one_formatted Jsonb n = one_shown jsonb (label_sound 1) (As (λ text. text)) (one_as (λ text. text))
one_formatted Jsonpath n = one_shown jsonpath (label_sound 1) (As (λ text. text)) (one_as (λ text. text))
one_formatted LineFormat n = one_shown line line_sound ShowsLine one_line
one_formatted Lseg n = one_shown lseg lseg_sound ShowsSegment one_segment
one_formatted Lsn n = one_shown lsn (fixed_sound uint64_spelling) (As lsn_text) (one_as lsn_text)
one_formatted Macaddr n = one_shown macaddr (whole_sound 6) (As octets_text) (one_as octets_text)
one_formatted Macaddr8 n = one_shown macaddr8 macaddr8_sound (As octets_text) (one_as octets_text)
one_formatted Money n = one_shown money (fixed_sound int64_spelling) (As money_text) (one_as money_text)
one_formatted Numeric n = one_number
one_formatted Oid n = one_shown oid (fixed_sound uint32_spelling) (As decimal) (one_as decimal)
one_formatted Path n = one_shown path path_sound ShowsPath one_path
one_formatted PointFormat n = one_shown point (fixed_sound point_spelling) ShowsPoint one_point
one_formatted Polygon n = λ bytes. one_shown path path_sound ShowsPath one_path (1 ∷ bytes)
one_formatted TextFormat n = one_shown text text_sound (As (λ text. text)) (one_as (λ text. text))
one_formatted Tid n = one_shown tid tid_sound (As tid_text) (one_as tid_text)
one_formatted Time n = one_shown time (fixed_sound int64_spelling) ShowsTime one_time
one_formatted Timestamp n = one_shown timestamp_value timestamp_value_sound (ShowsMoment (ShowsInstant (zone_of n))) (one_moment (ShowsInstant (zone_of n)) (one_instant (zone_of n)))
one_formatted Timetz n = one_shown timetz timetz_sound ShowsTimeTz one_zoned
one_formatted Uuid n = one_shown uuid (whole_sound 16) (As (hyphenated_text lower)) (one_as (hyphenated_text lower))
one_formatted Varbit n = one_shown varbit varbit_sound (As bits_text) (one_as bits_text)
one_formatted Xid8 n = one_shown xid8 (fixed_sound uint64_spelling) (As decimal) (one_as decimal)
one_formatted _ n = λ bytes a b s t. absurd s

-- by the format of the type
pub one_in : (By : BinaryFormat → ℕ → List ℕ → List ℕ → Type 0) → ((f : BinaryFormat) (n : ℕ) (bytes a b : List ℕ) → By f n bytes a → By f n bytes b → a ≡ b)
    → (f : Option BinaryFormat) (type_oid : ℕ) (bytes a b : List ℕ) → In By f type_oid bytes a → In By f type_oid bytes b → a ≡ b
one_in By one (Some f) n = one f n
one_in By one None n = λ bytes a b s t. absurd s

pub one_plain : (type_oid : ℕ) (bytes a b : List ℕ) → IsPlainText type_oid bytes a → IsPlainText type_oid bytes b → a ≡ b
one_plain type_oid = one_in IsShown one_formatted (format_in formats type_oid) type_oid
