-- The names of other crates and of this one's specs that several proofs cite, passed on from one place. Declares nothing.
pub use Rattle.std.proofs.Common.{◌≡◌, ℕ, ◌+◌, ◌-◌, ◌*◌, ◌≤◌, List, length, Ok, arith, refl, ap, ◌∙◌, sym, subst, ◌<◌, [], ◌∷◌, ◌++◌, map, take, drop, get_or, set, ◌^◌, Bool, Some, None, inl, inr, length-append, append_assoc, false, Option, pos, ◌⊎◌, ℤ, negsuc, true, ◌&&◌, Result, Err, suc, Bor, MutBor, OnOk, ◌||◌, zero, slice_index, rules, to_z, of_z}
pub use Rattle.std.proofs.Math.Facts.{to_z-of_z}
pub use Rattle.std.proofs.Math.Seq.{drop-append_seam, take-append_seam, take-append-add, take-length}
pub use Rattle.std.proofs.iter.Yields.{copies, fronts}
pub use Rattle.std.proofs.lemmas.Bool.{lt-ltb, cases_lt, ltb-true, le-leb, cases_Bool, leb-true}
pub use Rattle.std.proofs.lemmas.Iterator.{YieldsList, items_from_drains, maps, YieldsList-from_map_by, YieldsList-from_slice}
pub use Rattle.std.proofs.lemmas.Iterator.Consumers.{YieldsList-from_copied, YieldsList-at}
pub use Rattle.std.proofs.lemmas.List.{map-append, take_more_set, drop-set-lt, set-get_or, drop-drop, length-drop, append-nil, length-take, take-append-drop, take_more, drop_more, length-map, take-append-le, drop-append-le, take_all, map-id, drop-take}
pub use Rattle.std.proofs.lemmas.List.Concat.{flat_map-append}
pub use Rattle.std.proofs.lemmas.List.Elements.{All-append, All-cons, All-nil, All-from_recursion}
pub use Rattle.std.specs.Borrow.{GName}
pub use Rattle.std.specs.Fn.{Called}
pub use Rattle.std.specs.Int.{w32, from_be_bytes, cast_unsigned, w16}
pub use Rattle.std.specs.Iterator.Adapters.{map_source, map_callee}
pub use Rattle.std.specs.List.{flat_map, AllByRecursion, list_all}
pub use Rattle.std.specs.Net.Addr.{ipv6_segments, segments_of, octets_of, IsV6And}
pub use Rattle.std.specs.Option.{option_to_list}
pub use Rattle.std.specs.Prelude.{All, ◌≢◌, FitsSigned, IfErr, min, nat_le, OnErr, if◌then◌else◌}
pub use Rattle.std.specs.Str.{IsUtf8, is_utf8}
pub use Rattle.std.specs.declared.iter.Map.{Map}
pub use Rattle.pgp_base.proofs.Causes.{either_left, either_none, count_fits, count_past, either_first, either_right, either_then, counts_of, first-append, first_here, length_fits, length_past, first_more, fits_of}
pub use Rattle.pgp_base.proofs.Errors.{same_number}
pub use Rattle.pgp_base.proofs.Needs.{wants_window, counted_length, flat_more, nullable_least, sized_wants, counted_wants, memory_more, memory_then}
pub use Rattle.pgp_base.proofs.PartLemmas.{front_again, oid_number, uint16_number, int32_number, no_string, some_none, string_none}
pub use Rattle.pgp_base.proofs.Parts.{length-uint32, length-uint16, wants_here, wants_more, more_twice, null_spelled, more_parts, front_same, if_err_at, wants_then, wants_now, length-int32}
pub use Rattle.pgp_base.proofs.Strings.{string_takes, string_whole}
pub use Rattle.pgp_base.specs.Calls.{Gives, Runs, KeepsValue, Yielded, SoFar}
pub use Rattle.pgp_base.specs.Cause.{first, length_cause, nullable_cause, Cause, counted_cause, count_cause, either, text_cause, Wants, WantsMemory, Writes}
pub use Rattle.pgp_base.specs.Error.{number_of, plain}
pub use Rattle.pgp_base.specs.Grammar.{StandsAt, IsReader}
pub use Rattle.pgp_base.specs.Held.{Held, ◌⊕◌}
pub use Rattle.pgp_base.specs.Items.{Unmarked}
pub use Rattle.pgp_base.specs.PartReading.{oid_at, string_at, ◌>>=◌, text_at, uint16_at}
pub use Rattle.pgp_base.specs.Walk.{Walk, hint_of}
pub use Rattle.pgp_base.specs.Window.{window_held, window_lacks}
pub use Rattle.pgp_base.specs.Wire.{IsBytes, nullable, counted, oid, text, frame}
unfoldable pub use Rattle.pgp_base.specs.Wire.{uint32, int32, int16, uint16, uint64}
pub use Rattle.pgp_base.specs.declared.error.Error.{Error}
pub use Rattle.pgp_base.specs.declared.error.Error.TheVariants.{TooLarge, NotDrained, UnexpectedEof, OutOfMemory, UnknownTag, UnknownAuthentication, InvalidValueLength}
pub use Rattle.pgp_base.specs.declared.number.IsNull.{IsNull}
pub use Rattle.pgp_base.specs.declared.number.IsNull.TheVariants.{No, Yes}
pub use Rattle.pgp_base.specs.declared.window.Window.{Window}
pub use Rattle.pgp_client.specs.Talk.{Talk}
pub use Rattle.pgp_frontend.proofs.Causes.{count_more, either_more, last_cause, no_cause, parts_first, never_memory, refused_pairs}
pub use Rattle.pgp_frontend.proofs.Lists.{all_given, some_given, some_same, parse_refused, all_same}
pub use Rattle.pgp_frontend.proofs.Needs.{int16_length, null_length, bind_length, joined_more, framed_wants, framed_length, tagged_length, startup_length}
pub use Rattle.pgp_frontend.specs.ClientMessage.{ClientMessage, Bind, Close, CopyData, CopyDone, CopyFail, Describe, Execute, Flush, FunctionCall, Parse, PasswordMessage, Query, SaslInitialResponse, SaslResponse, Sync, Terminate, Startup, CancelRequest, SslRequest, GssEncRequest, PasswordKind}
pub use Rattle.pgp_frontend.specs.ClientRun.{ClientRun, MayCome, kinds_of, is_startup, is_opened}
pub use Rattle.pgp_frontend.specs.Given.{Arrived, Serves, before_values, BindWhole, BindRefused, ValuesUpTo, StartupWhole, StartupSoFar, Refused, shown_pairs}
pub use Rattle.pgp_frontend.specs.Payload.{Int16s, Text, Values, bytes_of, cause, joined, parts, parts_cause, payload, spelling, pair, framed, minor_code, minor_of, tag_of, Part, Byte, Int16, Int32, Oid, Oids, Nullable, Rest, Key, Pairs, frame_cause, part_cause, version_code, pair_cause, IsInRange, WritesMessage}
pub use Rattle.pgp_frontend.specs.declared.startup.ProtocolVersion.{ProtocolVersion}
pub use Rattle.pgp_frontend_read.specs.declared.error.ClientError.TheVariants.{UnknownPacket, Reading}
pub use Rattle.pgp_message.proofs.ErrorFieldLemmas.{error_field_reader, error_field_falls}
pub use Rattle.pgp_message.proofs.NumberLemmas.{format_reader, type_reader}
pub use Rattle.pgp_message.proofs.TextLemmas.{text_reader}
pub use Rattle.pgp_message.specs.BackendMessage.{AuthenticationOk, AuthenticationKerberosV5, AuthenticationCleartextPassword, AuthenticationMd5Password, AuthenticationScmCredential, AuthenticationGss, AuthenticationGssContinue, AuthenticationSspi, AuthenticationSasl, AuthenticationSaslContinue, AuthenticationSaslFinal, Message, NegotiateProtocolVersion, NotificationResponse, CommandComplete, DataRow, ErrorResponse, CopyInResponse, CopyOutResponse, BackendKeyData, NoticeResponse, Authentication, ParameterStatus, RowDescription, ReadyForQuery, ParameterDescription, payload_of}
pub use Rattle.pgp_message.specs.ItemReading.{error_field_at, field_at, format_at, type_at, range_at}
unfoldable pub use Rattle.pgp_message.specs.ItemReading.{column_at}
pub use Rattle.pgp_message.specs.Items.{IsValue, RangeSpelled, ErrorPart, FieldPart, FieldSpelled, FieldRefused, TextSpelled, TextRefused, FormatSpelled, FormatRefused, TypeSpelled, TypeRefused, ErrorFieldSpelled, ErrorFieldRefused, RangeRefused}
pub use Rattle.pgp_message_write.proofs.GivenLists.{FromItself}
pub use Rattle.pgp_message_write.specs.Given.{GivenRefused, WritesGiven, uncounted}
pub use Rattle.pgp_message_write.specs.Lists.{format_parts, type_parts, with_list, column_parts, field_parts, text_parts, value_parts, wide_list, counted_list, marked_list}
pub use Rattle.pgp_message_write.specs.Reply.{WritesReply, description_of, fields_of, names_of, negotiation_of, row_of, formats_of, types_of}
pub use Rattle.pgp_message_write.specs.Views.{shown_field, shown_column}
pub use Rattle.pgp_types.proofs.Appending.{only_memory}
pub use Rattle.pgp_types.proofs.ArrayLemmas.{part_reader, element_reader}
pub use Rattle.pgp_types.proofs.HstoreLemmas.{entry_item, value_read, value_bad, key_read, key_bad}
pub use Rattle.pgp_types.proofs.PartLemmas.{fixed_is, then_part, int32_pos, signed_fits}
pub use Rattle.pgp_types.specs.Array.{Product, array, array_bytes, dimension_bytes, flag_of, has_null, IsFlag, head, ArrayRead, ArrayReads, IsArray, IsDimension}
pub use Rattle.pgp_types.specs.Format.{Format, FixedRefused, IsBlock}
pub use Rattle.pgp_types.specs.Geometry.{Point, IsPoint, point_bytes}
pub use Rattle.pgp_types.specs.Hstore.{Entry, entry, entry_count, HstoreReads, IsEntry, IsTextOrNull, entry_cause, hstore}
pub use Rattle.pgp_types.specs.Network.{Inet, InetReads}
pub use Rattle.pgp_types.specs.Part.{Begins, NullableSpelled, shown}
pub use Rattle.pgp_types.specs.Path.{PathReads, WalkedPath, header, point_part, path}
pub use Rattle.pgp_types.specs.Range.{Side, between, RangeReads, SideSpelled, lower_bits, upper_bits, Bits, range_cause, side_cause, range_bytes, side_bytes}
pub use Rattle.pgp_types.specs.Scalar.{BoolReads, bool_bytes}
pub use Rattle.pgp_types.specs.declared.array.ArrayDimension.{ArrayDimension}
pub use Rattle.pgp_types.specs.declared.range.RangeBound.TheVariants.{Inclusive, Exclusive, Unbounded}
pub use Rattle.pgp_values.proofs.Items.{field_item, member_item}
pub use Rattle.pgp_values.proofs.LexemeLemmas.{lexeme_item, count_is}
pub use Rattle.pgp_values.proofs.Pairs.{pairs_again, pairs_length}
pub use Rattle.pgp_values.proofs.PlaceLemmas.{pairs_size}
pub use Rattle.pgp_values.specs.Decimal.{Numeric, finite, nan, plus_infinity, minus_infinity, Front, NumericReads, numeric_bytes}
pub use Rattle.pgp_values.specs.DecimalReading.{pairs}
pub use Rattle.pgp_values.specs.List.{item_count, ListReads, list}
pub use Rattle.pgp_values.specs.Multirange.{member}
pub use Rattle.pgp_values.specs.Polygon.{polygon, corner}
pub use Rattle.pgp_values.specs.Record.{Field, field}
pub use Rattle.pgp_values.specs.Snapshot.{bounds_bytes, snapshot, snapshot_of, SnapshotReads, WalkedSnapshot, snapshot_head, xid_part}
pub use Rattle.pgp_values.specs.Tsquery.{QueryItem, operand, negation, conjunction, disjunction, phrase, query_item, shown_query}
pub use Rattle.pgp_values.specs.Tsvector.{lexeme}
pub use denote.Param.Members.{Mut}
pub use Rattle.for_c.specs.ArrayWriting.{HasShape, dimension_of, Blames, Misshapen, Stops, array_of, body_of, dimension_item}
pub use Rattle.for_c.specs.ClientPlaces.{after_text, numbers_at, past, place}
pub use Rattle.for_c.specs.Compound.{IsAddress, IsAddressed, IsInetOf, dimension, value_in, BeginsHstore, IsArrayIn, IsRangeInside, IsSideInside, side_in}
pub use Rattle.for_c.specs.Copying.{copy_head, SentHead, NoHead}
pub use Rattle.for_c.specs.Further.{numeric_number}
pub use Rattle.for_c.specs.Geometry.{point_of}
pub use Rattle.for_c.specs.ListWriting.{WroteValue, items_cause, IsNotWritten, items_bytes}
pub use Rattle.for_c.specs.Listings.{IsColumnInside, range_of, named}
pub use Rattle.for_c.specs.Lists.{error_of, value_of, Puts}
pub use Rattle.for_c.specs.Missing.{IsMissing}
pub use Rattle.for_c.specs.MissingReading.{less, missing_from}
pub use Rattle.for_c.specs.Opening.{is_named, pair_of}
pub use Rattle.for_c.specs.PartPlaces.{dimension_at, column_before, value_length, bound_before, side_length}
pub use Rattle.for_c.specs.Parts.{IsInside, no_parts, part, stands}
pub use Rattle.for_c.specs.Plain.{comes_open, message_of}
pub use Rattle.for_c.specs.Points.{BeginsPath, path_of}
pub use Rattle.for_c.specs.Putting.{flag_in, elements_cause, elements_of, head_of, list_of, are_texts, entry_of, range_of_sides, side_of, has_value}
pub use Rattle.for_c.specs.Replies.{formats_cause, types_cause, reply_of, reported_field, described, name_of}
pub use Rattle.for_c.specs.Replying.{HasListFault, NotRepliedList, NotSentAs, Replied, NotReplied, RepliedList, SentAs, list_cause}
pub use Rattle.for_c.specs.Requests.{are_bound, is_format, suits}
pub use Rattle.for_c.specs.Sending.{NotSent, Sent, Why}
pub use Rattle.for_c.specs.TextSearch.{IsQueryItemInside, item_before, numbers, query_item_in, utf8_cause, is_node}
pub use Rattle.for_c.specs.Values.{Wrote, Lacks}
pub use Rattle.for_c.specs.Walks.{Takes, TakesAll, rest_of, StandsFrom, rest, Passes}
pub use Rattle.for_c.specs.declared.array.PgpDimension.{PgpDimension}
pub use Rattle.for_c.specs.declared.cursor.PgpCursor.{PgpCursor}
pub use Rattle.for_c.specs.declared.in_place.PgpItems.{PgpItems}
pub use Rattle.for_c.specs.declared.listing.PgpValue.{PgpValue}
pub use Rattle.for_c.specs.declared.opening.PgpPair.{PgpPair}
pub use Rattle.for_c.specs.declared.row.PgpColumn.{PgpColumn}
