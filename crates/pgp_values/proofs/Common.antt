-- The names of other crates and of this one's specs that several proofs cite, passed on from one place. Declares nothing.
pub use Rattle.std.proofs.Common.{◌≡◌, ℕ, zero, suc, ℤ, pos, negsuc, ◌+◌, ◌-◌, ◌*◌, ◌/◌, ◌%◌, ◌<◌, ◌≤◌, ◌^◌, false, ltb, List, [], ◌∷◌, ◌++◌, length, refl, sym, ap, ◌∙◌, arith, length-append, ◌⊎◌, inl, inr, Bool, true, cond, eqb, ◌||◌, Result, Ok, Err, subst, append_assoc, w16, FitsSigned, nat_le, drop, get_or, Some, None, add-one, le_of_suc-le-suc, not-suc-le-zero, drop_of_length-le, ◌≢◌, map, take, set, w64, w32, not, MutBor, OnOk, rules}
pub use Rattle.std.proofs.Math.Facts.{to_z-of_z}
pub use Rattle.std.proofs.Math.Nat.{mul_assoc, mul-le-mul, pow-le-pow_right, one-le-pow, mul-lt-mul_of_pos_right, mul_comm, div-add-mod, mod-lt, div-lt_iff_lt-mul, le_of_mul-le-mul_right, lt_of_mul-lt-mul_right}
pub use Rattle.std.proofs.Math.Seq.{take-suc}
pub use Rattle.std.proofs.lemmas.Bool.{lt-ltb, le-ltb, ltb-false, ltb-true, and_parts, leb-true, cases_order, cases_lt, cases_eq, ne_eqb}
pub use Rattle.std.proofs.lemmas.List.{get_or_past, length-map, map-append, take-append-drop, length-drop, length-set, append-nil, drop-set, take_at, drop_at, length-take, nil_from_length, take_all}
pub use Rattle.std.proofs.lemmas.Nat.{pow-add, be_bytes_2, from_be_bytes-to_be_bytes_2}
pub use Rattle.std.specs.Int.{cast_unsigned, w128, to_be_bytes, from_be_bytes}
pub use Rattle.std.specs.List.{flat_map, AllByRecursion}
pub use Rattle.std.specs.Prelude.{IfErr}
pub use Rattle.pgp_base.proofs.Binds.{guard_ok, guard_err, err_is}
pub use Rattle.pgp_base.proofs.Causes.{either_left, either_right, counts_of, length_fits, length_past, either_none, either_first, either_then, first_more, first_here}
pub use Rattle.pgp_base.proofs.CountedLemmas.{ok, ok_is, differ, IsBytes-after}
pub use Rattle.pgp_base.proofs.Needs.{flat_more, nullable_least}
pub use Rattle.pgp_base.proofs.Parts.{length-uint16, int16_spelled, more_twice, length-uint32, more_parts, left_same, Runs-length, wants_then, wants_more, if_err_at, sized4, front_twice, front_trans, nothing_more, Runs-snoc, cut_back, front_left}
pub use Rattle.pgp_base.proofs.Spellings.{without_zero}
pub use Rattle.pgp_base.specs.Calls.{Runs, ValueRefused}
pub use Rattle.pgp_base.specs.Cause.{text_cause, count_cause, first, length_cause, Cause, Wants, WantsMemory, Writes, nullable_cause}
pub use Rattle.pgp_base.specs.Held.{Held, ◌⊕◌}
pub use Rattle.pgp_base.specs.PartReading.{string_at, text_at}
pub use Rattle.pgp_base.specs.WalkReading.{counted}
pub use Rattle.pgp_base.specs.Wire.{IsBytes, int16, uint64, text, oid, nullable}
unfoldable pub use Rattle.pgp_base.specs.Wire.{uint16, uint32}
pub use Rattle.pgp_base.specs.declared.error.Error.{Error}
pub use Rattle.pgp_base.specs.declared.error.Error.TheVariants.{UnexpectedEof, NotDrained, InvalidValueLength, NotUtf8, InvalidCount, TooLarge, UnknownTag}
pub use Rattle.pgp_types.proofs.Appending.{only_memory, part_refused, handed_on, counted_up4, refused_as, memory_as, front_thrice, front_thrice_then}
pub use Rattle.pgp_types.proofs.Numbers.{int16_spelling, int32_spelling, int64_spelling, uint32_spelling, uint64_spelling, gives_signed, is_uint64}
pub use Rattle.pgp_types.proofs.PartLemmas.{IsPart, begins_read, rest_bytes, then_part, fixed_is, sized_part, nullable_part, and_then_ok, and_then_err, natural_part}
pub use Rattle.pgp_types.proofs.PathLemmas.{point_item, coordinates_read}
pub use Rattle.pgp_types.proofs.Spelling.{fixed_sound, bytes_take, IsSpelling, bytes_drop, gives}
pub use Rattle.pgp_types.proofs.WalkLemmas.{IsItem, walk_meets, walk_few, walk_is, walk_back}
pub use Rattle.pgp_types.specs.Array.{oid_part, flag_of}
pub use Rattle.pgp_types.specs.Format.{IsSound, fixed, FixedReads}
pub use Rattle.pgp_types.specs.Part.{Begins, NaturalRefused, Part, fixed_part, only, IsWalk, shown}
pub use Rattle.pgp_types.specs.PartReading.{point_at, Reader, natural_at, is_set}
pub use Rattle.pgp_values.specs.Amount.{spelled, before_point, behind_by, IsShown, IsSameNumber, IsCut}
pub use Rattle.pgp_values.specs.Decimal.{Decimal, IsDigits, Numeric, finite, nan, plus_infinity, minus_infinity, sign_of, IsNumeric, laid_out, numeric_bytes, numeric_head, Says, NumericReads, ReadsNumeric, IsDecimal, HasNoZeroEnds, last_of, IsCanonical}
pub use Rattle.pgp_values.specs.DecimalReading.{pairs, all_small, is_sign, signed, digits_of, numeric_of, numeric_behind, uint16_at}
unfoldable pub use Rattle.pgp_values.specs.DecimalReading.{numeric_head_at, numeric_at}
pub use Rattle.pgp_values.specs.DecimalSeen.{said, Gives}
pub use Rattle.pgp_values.specs.DecimalText.{decimal_in, run, stripped, whole_places, whole_digits, behind_point, letter, text_digits, fraction_digits, has_digit, shown_sign, sign_text, fraction_text, decimal_text, numeric_text}
unfoldable pub use Rattle.pgp_values.specs.DecimalText.{decimal_at}
pub use Rattle.pgp_values.specs.DecimalWriting.{Reported, reported_by, places_of, raised, lowered, digit_value, IsNumberOf}
pub use Rattle.pgp_values.specs.FormatTable.{Entry}
unfoldable pub use Rattle.pgp_values.specs.FormatTable.{format_in, rises}
pub use Rattle.pgp_values.specs.Integer.{with_sign, IsMagnitude, IsInteger, IsIntegerOf, ReadsInteger, IntegerMeans}
pub use Rattle.pgp_values.specs.IntegerReading.{digit_in, HasDigitFrom}
unfoldable pub use Rattle.pgp_values.specs.IntegerReading.{whole_value}
pub use Rattle.pgp_values.specs.List.{Item, item_count, ListReads, list}
pub use Rattle.pgp_values.specs.ListReading.{member_at}
unfoldable pub use Rattle.pgp_values.specs.ListReading.{field_at, places_at, lexeme_at}
pub use Rattle.pgp_values.specs.Multirange.{member, multirange}
pub use Rattle.pgp_values.specs.NumberGroups.{power_digit, group_value, group_down, IsWeight, IsPastWeights, NoneFrom, NoneTo, grouped}
pub use Rattle.pgp_values.specs.NumberMeaning.{IsValueOf, IsKept, TellsOrNames, TextMeans, limit, NumberMeans, NumberRefused, TextRefused, WritesMeant, IsPast}
pub use Rattle.pgp_values.specs.NumberScan.{NotAt, NotEnd, Trimmed, IsSign, Special, WrittenRefused, Front, SignFront, PointFront, MarkedRefused, RaisedRefused, ExponentRefused}
pub use Rattle.pgp_values.specs.NumberText.{SpecialText, IsBlank, IsDigit, NumberText, IsBlanked, Spells, Tells, Names, lower, nan_word, inf_word, infinity_word, SignText, PointText, MarkedText, ExponentText, infinity_of, RaisedText}
pub use Rattle.pgp_values.specs.Polygon.{corner, polygon}
pub use Rattle.pgp_values.specs.Record.{Field, field, composite}
pub use Rattle.pgp_values.specs.RecordWriting.{MakesField, FieldRefused}
pub use Rattle.pgp_values.specs.Snapshot.{Snapshot, WalkedSnapshot, IsXid, xid_part, snapshot_head, snapshot_bytes, SnapshotReads, snapshot, snapshot_of, bounds_bytes}
pub use Rattle.pgp_values.specs.Tsquery.{QueryItem, operand, negation, conjunction, disjunction, phrase, query_bytes, IsQueryItem, query_cause, text_part, IsSet, QuerySpelled, OperandRefused, IsOperator, OperatorRefused, QueryRefused, query_item, tsquery}
pub use Rattle.pgp_values.specs.Tsvector.{string_part, places_part, lexeme, tsvector}
pub use Rattle.pgp_values.specs.declared.error.NumericError.{NumericError}
pub use Rattle.pgp_values.specs.declared.error.NumericError.TheVariants.{InvalidSign, InvalidScale, InvalidDigit, InvalidText, OutOfRange}
