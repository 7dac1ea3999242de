-- The names of other crates and of this one's specs that several proofs cite, passed on from one place. Declares nothing.
pub use Rattle.std.proofs.Common.{◌≡◌, ◌⊎◌, Bool, true, false, cond, Option, Some, None, Result, Ok, Err, refl, sym, inl, inr, ℕ, ◌<◌, ◌≤◌, ◌^◌, List, [], ◌∷◌, ◌++◌, length, arith, ◌∙◌, ◌≢◌, zero, suc, ◌+◌, ◌-◌, get_or, ap, subst, append_assoc, length-append, take, drop, ltb, MutBor, OnOk, OnErr, IfOk, map, rules, add-one, ◌%◌, leb, leb-false, replicate, w8, ◌*◌, ◌/◌, take-add, not, eqb}
pub use Rattle.std.proofs.Math.Seq.{take-append_seam, drop-append_seam, drop-append-add}
pub use Rattle.std.proofs.lemmas.Bool.{le-leb, lt-leb, leb-true, eq-eqb, ne_eqb, cases_Bool, or_left, or_right, or_from, cases_lt, ltb-false, ltb-true, le-ltb, lt-ltb, or_parts, eqb-true, and_parts}
pub use Rattle.std.proofs.lemmas.Int.{of_z-to_z, to_z-of_z}
pub use Rattle.std.proofs.lemmas.List.{get_or-append-add, length-take, append-nil, take_at, drop_at, take-append-drop, length-drop, get_or-drop, get_or-take, get_or_past, drop-drop, take_rest}
pub use Rattle.std.proofs.lemmas.Nat.{be_bytes_2, be_bytes_4, be_bytes_8, from_be_bytes-to_be_bytes_2, from_be_bytes-to_be_bytes_4, from_be_bytes-to_be_bytes_8}
pub use Rattle.std.specs.Borrow.{Bor, GName}
pub use Rattle.std.specs.Int.{w32, cast_unsigned, w16, w64, from_be_bytes, to_be_bytes, cast_signed}
pub use Rattle.std.specs.List.{list_any, Contains, concat, flat_map}
pub use Rattle.std.specs.Prelude.{nat_le, ◌==◌, if◌then◌else◌, slice_index_or, pos, IfErr, negsuc, ℤ, All, FitsSigned}
pub use Rattle.std.specs.Result.{IsOk, IsErr, IsErrAnd}
pub use Rattle.std.specs.Str.{IsUtf8, is_utf8, IsAscii, StartsWithNoChar}
pub use Rattle.std.proofs.lemmas.Simd.{bitmask_splat, zip2_splat, zip2_splat_left, length-chunk, none_from_empty_mask, trailing_mask_l, run_in_chunk_le, run_in_chunk_fails, run_in_chunk_stops}
pub use Rattle.std.proofs.lemmas.Str.{IsUtf8-append, IsUtf8-drop, IsUtf8-from_ascii, IsCharBoundary-from_take, encode_ascii, IsUtf8-encode}
pub use Rattle.std.specs.Simd.Lanes.{zip2, mask_l, chunk, top}
pub use lib.Count.{count_trailing_zeros}
pub use Rattle.pgp_base.specs.Calls.{value_of, length_of, null_of, Keeps, KeepsValue, Adds, Puts, Runs, ValueRefused, once, Appends, Wrote}
pub use Rattle.pgp_base.specs.ClosureWriters.{BodyRefused, NullableRefused}
pub use Rattle.pgp_base.specs.Cause.{Cause, either, first, text_cause, length_cause, count_cause, Writes, Wants, WantsMemory, nullable_cause}
pub use Rattle.pgp_base.specs.CountedRest.{Rest, IsDue, IsTaken, walk_of, hint_at, rest_hint, Over}
pub use Rattle.pgp_base.specs.Grammar.{StandsAt, IsReader}
pub use Rattle.pgp_base.specs.Held.{Held, ◌⊕◌, Leaves, IsFrontOf}
unfoldable pub use Rattle.pgp_base.specs.Held.{lengthened, overwritten}
pub use Rattle.pgp_base.specs.Items.{Spellings, IsCut, CountedEnd, Items, CountedItems, MarkedEnd, Unmarked, MarkedItems}
pub use Rattle.pgp_base.specs.PartReading.{◌>>=◌, Answers, front_at, with_first, byte_at}
unfoldable pub use Rattle.pgp_base.specs.PartReading.{string_at, text_at}
pub use Rattle.pgp_base.specs.Reading.{BeginsNoOther, ReadsSpelling, ReadsTexts, TextStands}
pub use Rattle.pgp_base.specs.Walk.{TakesFront, hint_of, IsFinished, IsRefused, TakesItem, Walk, none_left, refused, EndsStay}
pub use Rattle.pgp_base.specs.WalkReading.{read_on, drained, counted_run, left_of, is_marked, marked_step, marked_run, marked}
pub use Rattle.pgp_base.specs.Window.{window_held, window_lacks}
pub use Rattle.pgp_base.specs.Wire.{IsBytes, nullable, counted, oid, HasNoZero, text}
unfoldable pub use Rattle.pgp_base.specs.Wire.{uint16, uint32, int16, int32, int64, uint64}
pub use Rattle.pgp_base.specs.declared.error.Error.{Error}
pub use Rattle.pgp_base.specs.declared.error.Error.TheVariants.{UnexpectedEof, EmbeddedNull, TooLarge, NotDrained, OutOfMemory, InvalidLength, UnknownTag, UnknownAuthentication, NotUtf8, InvalidSize, InvalidCount, InvalidKeyLength, InvalidValueLength, InvalidDimension, TooManyElements, InvalidBitLength, InvalidNetmask, InvalidAddressLength, InvalidFamily, InvalidVersion}
pub use Rattle.pgp_base.specs.declared.window.Window.{Window}
pub use Rattle.pgp_base.specs.Ascii.{AreAscii}
