-- The names of other crates and of this one's specs that several proofs cite, passed on from one place. Declares nothing.
pub use Rattle.std.proofs.Common.{◌≡◌, ℕ, ℤ, ◌+◌, ◌-◌, ◌≤◌, List, [], ◌∷◌, sym, Result, Option, Some, None, refl, ap, subst, inl, inr, MutBor, length, arith, length-append, Bool, true, false, map, take, ◌∙◌, ◌≢◌, ◌<◌, ◌^◌, ◌++◌, append_assoc, ◌⊎◌, drop, get_or, ◌*◌, negsuc, suc, zero, rules}
pub use Rattle.std.proofs.lemmas.List.{append-nil, take_more, map-append, take-append-drop, drop_more, take_all, map-id, take_at}
pub use Rattle.std.proofs.lemmas.List.Elements.{recursion_from_All, All-push}
pub use Rattle.std.specs.Int.{w16, w32, to_be_bytes, cast_unsigned}
pub use Rattle.std.specs.List.{list_any, flat_map, AllByRecursion}
pub use Rattle.std.specs.Prelude.{FitsSigned, All, nat_le, ◌==◌, if◌then◌else◌, is_some, ◌||◌, option_to_list, pos, slice_index, OnOk, IfErr, Ok, Err, slice_index_or}
pub use Rattle.pgp_base.proofs.Causes.{count_fits, either_first, first_more, first_here, first-append, either_none, either_then, either_left, either_right, fits_of, counts_of, count_past}
pub use Rattle.pgp_base.proofs.Needs.{counted_length, memory_then, wants_window, flat_more, counted_wants, memory_more, refused_then, writes_memory, refused_same, sized_length, sized_wants, if_err_map}
pub use Rattle.pgp_base.proofs.Parts.{more_bytes, more_parts, nothing_more, more_twice, wants_more, filled4, sized4, length-uint32, length-uint16, int16_spelled, int32_spelled, wants_then, Puts-at, Runs-length, cut_back, on_err, wants_here, wants_now, wants_same, if_err_at, counted_up, sized2, front_then, left_same, left_then, writes_out, front_left, Runs-snoc, length-int32}
pub use Rattle.pgp_base.proofs.Prefixes.{int32_begins, fronts, uint32_begins, int16_begins, text_begins, nullable_begins, counted_begins}
pub use Rattle.pgp_base.specs.Calls.{Yielded, Gives, Runs, ValueRefused}
pub use Rattle.pgp_base.specs.Cause.{length_cause, Cause, either, first, text_cause, count_cause, nullable_cause, Wants, WantsMemory}
pub use Rattle.pgp_base.specs.Held.{Held, ◌⊕◌, overwritten}
pub use Rattle.pgp_base.specs.Wire.{int16, nullable, counted, oid, text, frame, uint16}
unfoldable pub use Rattle.pgp_base.specs.Wire.{uint32, int32}
pub use Rattle.pgp_base.specs.declared.error.BindError.{BindError}
pub use Rattle.pgp_base.specs.declared.error.BindError.TheVariants.{Conversion, Serialization}
pub use Rattle.pgp_base.specs.declared.error.Error.{Error}
pub use Rattle.pgp_base.specs.declared.error.Error.TheVariants.{OutOfMemory, EmbeddedNull, InvalidSize, TooLarge}
pub use Rattle.pgp_base.specs.declared.number.IsNull.{IsNull}
pub use Rattle.pgp_frontend.specs.ClientMessage.{Bind, ClientMessage, PasswordMessage, SaslInitialResponse, SaslResponse, Startup, CancelRequest, SslRequest, GssEncRequest, PasswordKind, Parse, Close, CopyData, CopyDone, CopyFail, Describe, Execute, Flush, Query, Sync, Terminate, FunctionCall, Password, Initial, Response}
pub use Rattle.pgp_frontend.specs.Given.{Serves, Served, before_values, BindWhole, BindRefused, Appended, Arrived, ParseWhole, ParseSoFar, Refused, shown_by}
pub use Rattle.pgp_frontend.specs.Opening.{Opening}
pub use Rattle.pgp_frontend.specs.Payload.{Part, Text, Int16s, Values, joined, part_cause, parts_cause, Byte, Int16, Int32, Oid, Oids, Nullable, Rest, Key, Pairs, pair_cause, parts, cause, tag_of, kind_of, framed, payload, minor_code, bytes_of, IsInRange, spelling, WritesMessage, frame_cause, minor_of, pair, EachInRange, version_code}
pub use Rattle.pgp_frontend.specs.Putting.{HeadRefused, ItemsRefused, ValuesRefused}
pub use Rattle.pgp_frontend.specs.Reading.{IsSpelled, IsNamed, Shape, AByte, AnInt16, AnInt32, AnOid, AText, SomeInt16s, SomeOids, SomeValues, ANullable, AllBytes, AKey, shape, HasNames, HasSpelling}
pub use Rattle.pgp_frontend.specs.View.{part_of, parts_of}
