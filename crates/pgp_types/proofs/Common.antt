-- The names of other crates and of this one's specs that several proofs cite, passed on from one place. Declares nothing.
pub use Rattle.std.proofs.Common.{◌≡◌, ℕ, ◌+◌, ◌≤◌, List, Bool, true, false, ◌∙◌, sym, length, take, Result, Ok, Err, OnErr, None, Some, subst, refl, ◌++◌, inl, inr, ◌⊎◌, ℤ, zero, suc, pos, ◌*◌, ◌<◌, [], ◌∷◌, map, Option, ap, append_assoc, arith, FitsSigned, length-append, ◌≢◌, negsuc, ◌-◌, ◌^◌, MutBor, drop, w64, length-drop, Bor, ◌/◌, ◌%◌, get_or, w8, w16, cond, ltb, IfOk, OnOk, rules}
pub use Rattle.std.proofs.Math.Dec.{eqb}
pub use Rattle.std.proofs.Math.Seq.{take-append_seam, drop-append_seam, take-length, drop-nil}
pub use Rattle.std.proofs.lemmas.Bool.{eqb-true, le-leb, leb-true, eq-eqb, cases_order, ltb-false, ltb-true, le-ltb, lt-ltb, ne_eqb, eqb-false}
pub use Rattle.std.proofs.lemmas.Int.{to_z-of_z, of_z-to_z}
pub use Rattle.std.proofs.lemmas.List.{length-take-le, take-append-drop, length-map, map-append, take_at, drop_at, length-take, append-nil, drop-drop, get_or-drop}
pub use Rattle.std.proofs.lemmas.List.Elements.{All-push}
pub use Rattle.std.proofs.lemmas.Str.{IsUtf8-from_is_utf8, is_utf8-from_IsUtf8}
pub use Rattle.std.specs.Int.{w32, cast_signed, cast_unsigned, from_be_bytes, from_bool, Width, to_be_bytes, div_ceil}
pub use Rattle.std.specs.List.{flat_map, concat, AllByRecursion}
pub use Rattle.std.specs.Prelude.{IfErr, All, not, nat_le, slice_index, if◌then◌else◌, bit_and, nat_eq, bit_or}
pub use Rattle.std.specs.Str.{IsUtf8, is_utf8}
pub use Rattle.pgp_base.proofs.Binds.{err_is, err, bind_ok, bind_err, guard_ok, guard_err}
pub use Rattle.pgp_base.proofs.Causes.{either_left, either_right, fits_of, length_fits, either_none, length_past, either_first, either_then, first_more, first_here}
pub use Rattle.pgp_base.proofs.CountedLemmas.{counted_one, not_more_items, ok, counted_whole, ok_is, differ, IsBytes-after, counted_few}
pub use Rattle.pgp_base.proofs.Needs.{wants_window, nullable_least, sized_length, memory_then, flat_more}
pub use Rattle.pgp_base.proofs.PartLemmas.{int32_number, number_again, number_takes, number_short, short_number, front_takes, front_again}
pub use Rattle.pgp_base.proofs.Parts.{front_then, front_twice, front_trans, front_left, cut_back, filled4, more_twice, wants_more, wants_then, int32_spelled, length-uint32, flat_snoc, more_bytes, sized4, more_parts, more_kept, null_spelled, nothing_more, if_err_at, Runs-snoc, front_same, left_same, wants_here, wants_now, writes_out, on_err, length-int32}
pub use Rattle.pgp_base.specs.Calls.{null_of, Gives, Runs, ValueRefused, Adds, value_of, length_of}
pub use Rattle.pgp_base.specs.Cause.{Cause, Wants, WantsMemory, Writes, first, length_cause, nullable_cause}
pub use Rattle.pgp_base.specs.Grammar.{IsReader}
pub use Rattle.pgp_base.specs.Held.{Held, ◌⊕◌, IsFrontOf, StaysBehind}
unfoldable pub use Rattle.pgp_base.specs.Held.{overwritten, lengthened, inserted}
pub use Rattle.pgp_base.specs.Items.{Spellings}
pub use Rattle.pgp_base.specs.PartReading.{int32_at, front_at, Answers}
pub use Rattle.pgp_base.specs.Walk.{Walk}
pub use Rattle.pgp_base.specs.WalkReading.{counted, counted_run}
pub use Rattle.pgp_base.specs.Wire.{IsBytes, oid, nullable}
unfoldable pub use Rattle.pgp_base.specs.Wire.{uint32, int32, int16, int64, uint64}
pub use Rattle.pgp_base.specs.declared.error.BindError.{BindError}
pub use Rattle.pgp_base.specs.declared.error.Error.{Error}
pub use Rattle.pgp_base.specs.declared.error.Error.TheVariants.{InvalidValueLength, UnexpectedEof, NotDrained, InvalidCount, InvalidDimension, TooManyElements, InvalidKeyLength, NotUtf8, TooLarge, InvalidFamily, InvalidNetmask, InvalidAddressLength, OutOfMemory, InvalidSize, InvalidVersion, InvalidBitLength}
pub use Rattle.pgp_base.specs.declared.number.IsNull.{IsNull}
pub use Rattle.pgp_base.specs.declared.number.IsNull.TheVariants.{Yes, No}
pub use Rattle.pgp_types.specs.Array.{Array, IsDimension, dimension_bytes, has_null, flag_of, array_bytes, array_cause, Product, elements_of, head, dimension, Extent, Front, IsFlag, ArrayRead, ArrayReads, IsArray, array_seen, array, finished}
pub use Rattle.pgp_types.specs.ArrayReading.{head_at, dimension_at, element_at, product_of}
unfoldable pub use Rattle.pgp_types.specs.ArrayReading.{product_at, each_at}
pub use Rattle.pgp_types.specs.Format.{IsSound, FixedRefused, IsBlock, ReadsBy, WholeReads, AllRead, whole, all_bytes, fixed, FixedReads}
pub use Rattle.pgp_types.specs.Geometry.{Point, Box, IsPoint, IsBox, point_bytes, box_bytes}
pub use Rattle.pgp_types.specs.Hstore.{Entry, IsTextOrNull, IsEntry, entry_bytes, entry_cause, entry, entry_count, HstoreReads, hstore, shown_entry, shown_entries}
pub use Rattle.pgp_types.specs.Network.{Inet, Family, ipv4, ipv6, family_number, address_size, family_of, octets, Parts, joined, parts_of, IsInet, AddressRefused, PartsRefused, InetReads, inet}
pub use Rattle.pgp_types.specs.Part.{Begins, IsWalk, Part, NullableSpelled, NaturalRefused, sized, IsNegative, IsShort, fixed_part, natural, only, ◌then◌, shown}
pub use Rattle.pgp_types.specs.PartReading.{Reader, and_then, is_text_or_null, fixed_at, natural_of, split_at, nullable_of, tested, only_at, paired, then_at, is_set, flag_at}
unfoldable pub use Rattle.pgp_types.specs.PartReading.{natural_at, sized_at, nullable_at, key_at, entry_value_at, entry_at, point_at}
pub use Rattle.pgp_types.specs.Path.{Path, WalkedPath, flag, header, point_part, path_bytes, PathReads, path, point_at_xy, path_of}
pub use Rattle.pgp_types.specs.Range.{Side, side_bytes, side_cause, Range, empty, between, Bits, lower_bits, upper_bits, SideSpelled, side, sides, RangeReads, side_bit, range_bytes, range_cause, range}
pub use Rattle.pgp_types.specs.RangeWriting.{side_of, LowerMade, RangeStops, RangeWritten, KeepsBound, IsNullBound, cut_of, Extends, Makes, SideStops}
pub use Rattle.pgp_types.specs.Scalar.{char_byte, bool_bytes, BoolReads, bool}
pub use Rattle.pgp_types.specs.Varbit.{Varbit, bit_count, VarbitReads, varbit}
pub use Rattle.pgp_types.specs.declared.array.ArrayDimension.{ArrayDimension}
pub use Rattle.pgp_types.specs.declared.range.RangeBound.{RangeBound}
pub use Rattle.pgp_types.specs.declared.range.RangeBound.TheVariants.{Inclusive, Exclusive, Unbounded}
