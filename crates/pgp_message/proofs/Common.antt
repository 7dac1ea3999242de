-- The names of other crates and of this one's specs that several proofs cite, passed on from one place. Declares nothing.
pub use Rattle.std.proofs.Common.{◌≡◌, ◌≢◌, ℕ, ℤ, Bool, true, false, pos, negsuc, arith, length-append, List, [], ◌∷◌, ◌++◌, Result, Ok, Err, refl, sym, ap, subst, ◌∙◌, zero, suc, ◌≤◌, length, Option, Some, None, ◌+◌, ◌<◌, ◌^◌, get_or, take, drop, inl, inr, append_assoc, FitsSigned, ◌-◌, min, to_z, of_z, ltb, cond, eqb, lit<, rules, map, vec_len, vec_capacity, IfOk}
pub use Rattle.std.proofs.Math.Seq.{take-append_seam, drop-append_seam, drop-append-add}
pub use Rattle.std.proofs.lemmas.Bool.{le-ltb, ltb-false, ltb-true, cases_lt, lt-ltb, eqb-true, eqb-false}
pub use Rattle.std.proofs.lemmas.Int.{to_z-of_z, of_z-to_z}
pub use Rattle.std.proofs.lemmas.List.{append-nil, take-append-drop, length-take, drop-drop, drop_at, length-drop, get_or-drop, map-id, take_at, nil_from_length, map_push, length-map}
pub use Rattle.std.proofs.lemmas.List.Concat.{flat_map-cons}
pub use Rattle.std.proofs.lemmas.Nat.{be_bytes_4, from_be_bytes-to_be_bytes_4}
pub use Rattle.std.specs.Int.{w32, from_be_bytes, w16, cast_signed, cast_unsigned}
pub use Rattle.std.specs.Int.Signed.{lt_z, lt_z_yes, lt_z_no}
pub use Rattle.std.specs.Str.{IsUtf8}
pub use Rattle.std.specs.List.{slice_get, AllByRecursion, flat_map, concat}
pub use Rattle.std.specs.Prelude.{nat_lt, if◌then◌else◌, IfSome, ◌⊎◌, not, ◌<ℤ◌, ◌≤ℤ◌, MatchResult, IsOkAnd}
pub use Rattle.std.specs.declared.ops.Range.{Range}
pub use Rattle.pgp_base.proofs.Binds.{err_is, bind_ok, bind_err, err, guard_ok, guard_err}
pub use Rattle.pgp_base.proofs.CountedLemmas.{ok_is, differ, IsBytes-after, ok, counted_whole, counted_few}
pub use Rattle.pgp_base.proofs.MarkedLemmas.{marked_whole, marked_few}
pub use Rattle.pgp_base.proofs.OneLists.{one_counted_list, one_marked_list}
pub use Rattle.pgp_base.proofs.PartLemmas.{IsBytes-take, IsBytes-drop, no_string, string_none, string_falls, front_takes, front_again, TakesNumber, number_takes, number_again, oid_number, int32_number, uint16_number, int16_number, number_short, front_falls, short_number, TextFound, text_found, text_read, text_refused, text_cut, text_falls}
pub use Rattle.pgp_base.proofs.Steps.{marked_item}
pub use Rattle.pgp_base.proofs.Strings.{string_takes, string_front, string_whole, first_text, after_text}
pub use Rattle.pgp_base.specs.Grammar.{StandsAt, IsReader}
pub use Rattle.pgp_base.specs.PartReading.{string_at, ◌>>=◌, front_at, uint16_at, oid_at, int32_at, int16_at, text_at}
pub use Rattle.pgp_base.specs.WalkReading.{is_marked}
pub use Rattle.pgp_base.specs.Wire.{text, HasNoZero, IsBytes, uint16, oid, int16}
unfoldable pub use Rattle.pgp_base.specs.Wire.{int32, uint32}
pub use Rattle.pgp_base.specs.declared.error.Error.{Error}
pub use Rattle.pgp_base.specs.declared.error.Error.TheVariants.{UnexpectedEof, NotUtf8, InvalidCount, NotDrained}
pub use Rattle.pgp_message.specs.BackendMessage.{Request, AuthenticationOk, AuthenticationKerberosV5, AuthenticationCleartextPassword, AuthenticationMd5Password, AuthenticationScmCredential, AuthenticationGss, AuthenticationGssContinue, AuthenticationSspi, AuthenticationSasl, AuthenticationSaslContinue, AuthenticationSaslFinal, Message, ParseComplete, BindComplete, CloseComplete, NotificationResponse, CommandComplete, DataRow, ErrorResponse, CopyInResponse, CopyOutResponse, EmptyQueryResponse, BackendKeyData, NegotiateProtocolVersion, NoticeResponse, Authentication, ParameterStatus, RowDescription, ReadyForQuery, CopyDone, CopyData, NoData, PortalSuspended, ParameterDescription, tag_of, counted_bytes, copy_formats, payload_of, Fits, Spells, IsUnknownCode, HasNegativeCount, Body, code_of, details_of}
pub use Rattle.pgp_message.specs.Found.{Found, FindsFrames, FindsAll, AreFrames, TakesEach, TakesSome}
pub use Rattle.pgp_message.specs.FrameSteps.{TakesOnto}
pub use Rattle.pgp_message.specs.FrontReading.{Front, IsFront, announced, front_frame, Finds}
pub use Rattle.pgp_message.specs.Header.{HeaderPart, IsHeader}
pub use Rattle.pgp_message.specs.ItemReading.{numbers_after, format_at, type_at, range_after, raw_string_at, whole_string, field_at, raw_field_at}
unfoldable pub use Rattle.pgp_message.specs.ItemReading.{error_field_at, numbers_at, column_at, range_at}
pub use Rattle.pgp_message.specs.Items.{AnyBytes, ErrorPart, ErrorFieldSpelled, ErrorFieldRefused, NameSpelled, NameRefused, TextRefused, FieldPart, numbers_of, NumbersFit, ColumnSpelled, ColumnRefused, FieldSpelled, FieldRefused, FormatSpelled, FormatRefused, TypeSpelled, TypeRefused, RangeSpelled, RangeRefused, StringSpelled, StringRefused, RawFieldSpelled, RawFieldRefused, TextSpelled}
pub use Rattle.pgp_message.specs.Parts.{KeyData, CountedBytes, Negotiation, CopyFormats, Notification, Setting}
pub use Rattle.pgp_message.specs.Reading.{ended, made, key_of, options_of}
unfoldable pub use Rattle.pgp_message.specs.Reading.{byte_of, string_of, setting_of, notification_of, key_data_of, negotiation_of, counted_of, copy_of, request_of, bare_of, body_of, salt_of, count_at, bare_request, by_code}
pub use Rattle.pgp_message.specs.Remembered.{Memory, header_of, count_of, headers_after, header_after, memory_after}
pub use Rattle.pgp_message.specs.Stream.{frame_bytes, Frame, IsFrame, IsEnding, Frames, BeginsWithFrame, TakesFrame, BeginsWithHeader, IsPartial, IsLengthFault, Bodies, BackendRun, BeginsWithKept, KeepsBytes, Step}
pub use Rattle.pgp_message.specs.Table.{HasPlaces, HasColumn, IsPlaceIn, or_end, place_at, value_at}
pub use Rattle.pgp_message.specs.Views.{seen, parsed, view}
