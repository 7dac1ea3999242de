-- The names of other crates and of this one's specs that several proofs cite, passed on from one place. Declares nothing.
pub use Rattle.std.proofs.Common.{◌≡◌, ℕ, List, true, false, Some, refl, sym, ◌∙◌, from_bits, ltb, ℤ, Option, None, Ok, Err, ap, subst, Bool, Result, ◌<◌, arith, inl, inr, rules, FitsSigned, w32, w64, pos, ◌*ℤ◌, ◌+◌}
pub use Rattle.std.proofs.Math.Facts.{to_z-of_z}
pub use Rattle.std.proofs.lemmas.Bool.{false≢true, lt-ltb, le-ltb}
pub use Rattle.std.proofs.lemmas.Float.{T_from_false}
pub use Rattle.std.specs.Float.{Float, Format, binary32, binary64, float_is_finite}
unfoldable pub use Rattle.std.specs.Float.{float_is_finite, is_sign_negative}
pub use Rattle.std.specs.Fmt.{decimal, signed_decimal, sign_text}
pub use Rattle.std.specs.Prelude.{codes, ◌%◌, ◌^◌, IfOk, IsErr, [], ◌++◌, nat_eq, if◌then◌else◌, unsigned_abs, ⊤, IsTrue, ◌∷◌, drop, length, map, ◌+ℤ◌, string_bytes, OnOk}
pub use Rattle.jiff.specs.Words.{IsEpochDay, IsCivilNanos}
pub use Rattle.pgp_value_text.specs.Numbers.{day_1970, days_cycle, in_cycle, later, microseconds_cycle, nanos_1970}
pub use Rattle.pgp_value_text.specs.Span.{ShowsSpan, span_text}
pub use Rattle.pgp_value_text.specs.Calendar.{ShowsDay, ShowsInstant, ShowsMoment, ShowsTime, WritesText, IsShownDay, IsShownInstant, IsShownTime, HasText, era, year_after, day_text, clock_text, date_text, instant_text}
pub use Rattle.pgp_types.proofs.Numbers.{int8_spelling, int16_spelling, int32_spelling, int64_spelling, uint32_spelling, uint64_spelling}
pub use Rattle.pgp_types.proofs.Spelling.{fixed_sound}
pub use Rattle.pgp_types.specs.Scalar.{bool, bytea, char, int2, int4, int8, oid, lsn, float4, float8}
pub use Rattle.pgp_types.specs.Time.{time}
pub use Rattle.pgp_values.proofs.Fixed.{timetz_sound, circle_sound, line_sound, lseg_sound, tid_sound}
pub use Rattle.pgp_values.proofs.MomentLemmas.{date_value_sound, interval_value_sound, timestamp_value_sound}
pub use Rattle.pgp_values.specs.DecimalText.{numeric_text}
pub use Rattle.pgp_values.specs.Moment.{date_value, interval_value, timestamp_value}
pub use Rattle.pgp_values.specs.System.{xid8, money, tid}
pub use Rattle.pgp_values.specs.Time.{timetz}
pub use Rattle.pgp_values.specs.declared.moment.Moment.{Moment}
pub use Rattle.pgp_values.specs.declared.moment.Moment.TheVariants.{PosInfinity, NegInfinity, Value}
pub use Rattle.uuid.specs.Text.{hyphenated_text, lower}
pub use lib.Ieee.Bits.{nan_bits_is, nan_bits_above}
pub use Rattle.pgp_value_text.specs.Float.{ShowsFloat, scaled, trimmed, exponent_text, HasDigits, HasSmall, HasLarge, IsSmall, IsPlaces, IsLarge, ShowsSize, last_digits, field_value, is_equal, kept, marked}
pub use Rattle.pgp_value_text.specs.ValueText.{bool_text, char_text, hex_text, lsn_text, zone_of, As, IsPlainText, IsShown, In, ShowsNumeric, Shows, Tells}
pub use Rattle.pgp_value_text.specs.Zone.{ShowsTimeTz, zone_text}
pub use Rattle.pgp_value_text.specs.Figure.{shown_number, ShowsBox, ShowsCircle, ShowsLine, ShowsNumbers, ShowsPath, ShowsPoint, ShowsSegment}
pub use Rattle.pgp_value_text.specs.ArrayText.{ShowsArray, within, ShowsElement, ShowsSome, all_bounds, placed, braces, bounds_text, indexes_text, begins_at_one}
pub use Rattle.pgp_value_text.specs.Parts.{Pushes, ShowsList, ShowsEach, listed}
pub use Rattle.pgp_value_text.specs.RangeText.{IsElementBy, IsElementText, ShowsBound, ShowsMultirange, ShowsRange, ShowsSide, bound_of, closing, opening}
pub use Rattle.pgp_base.specs.Walk.{Walk, IsFinished, TakesItem, hint_of}
pub use Rattle.std.specs.List.{flat_map, list_all, list_any}
pub use Rattle.pgp_value_text.specs.Network.{has_netmask, network_text, octets_text, octet_text}
pub use Rattle.pgp_types.specs.Range.{Range, Side, between, empty, range}
pub use Rattle.pgp_types.specs.Geometry.{Box, Point, box, point}
pub use Rattle.pgp_types.specs.Array.{array, ArrayRead}
pub use Rattle.pgp_values.specs.Geometry.{circle, line, lseg}
pub use Rattle.pgp_value_text.specs.Bits.{bits_text, tid_text, byte_bits}
pub use Rattle.pgp_value_text.specs.Quoting.{quoted, is_special, escaped_byte}
pub use Rattle.std.proofs.lemmas.List.{append_assoc, drop_more, drop_all}
pub use Rattle.pgp_types.specs.Path.{WalkedPath, path}
pub use Rattle.pgp_types.specs.Format.{IsSound}
pub use Rattle.pgp_values.specs.declared.formats.BinaryFormat.{BinaryFormat}
pub use Rattle.pgp_values.specs.Formats.{formats}
pub use Rattle.pgp_values.specs.FormatTable.{format_in}
pub use Rattle.pgp_value_text.specs.TextOf.{IsTextBy, IsTextOf, is_apart}
pub use Rattle.pgp_types.proofs.GeometryLemmas.{box_spelling, point_spelling}
pub use Rattle.pgp_types.specs.Network.{inet, macaddr, uuid}
pub use Rattle.pgp_types.proofs.InetLemmas.{inet_sound}
pub use Rattle.pgp_value_text.specs.Money.{money_text, grouped}
pub use Rattle.pgp_values.specs.Multirange.{multirange}
pub use Rattle.jiff_core.proofs.SignedLemmas.{signed_arith}
pub use Rattle.jiff.proofs.Family.{epoch_day_range, civil_nanos_range, time_nanos_bound, epoch_day_injective, time_nanos_injective, civil_nanos_injective}
pub use Rattle.pgp_base.specs.Held.{items_held, ◌⊕◌, Held}
pub use Rattle.pgp_value_text.specs.declared.error.TextError.{TextError}
pub use Rattle.pgp_value_text.specs.declared.error.TextError.TheVariants.{OutOfMemory, OutOfRange}
pub use Rattle.pgp_types.proofs.PathLemmas.{path_sound}
pub use Rattle.pgp_types.specs.Varbit.{varbit}
pub use Rattle.pgp_types.proofs.VarbitLemmas.{varbit_sound}
pub use Rattle.pgp_values.specs.Network.{macaddr8}
pub use Rattle.pgp_types.proofs.RangeLemmas.{range_sound}
pub use Rattle.pgp_values.proofs.Items.{multirange_sound}
unfoldable pub use Rattle.pgp_base.specs.Held.{lengthened}
unfoldable pub use Rattle.std.specs.Fmt.{digits}
