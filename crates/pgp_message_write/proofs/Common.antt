-- The names of other crates and of this one's specs that several proofs cite, passed on from one place. Declares nothing.
pub use Rattle.std.proofs.Common.{◌≡◌, ℕ, ◌+◌, List, [], ◌∷◌, ◌++◌, length, map, Option, Some, None, Ok, Err, refl, sym, ap, ◌∙◌, subst, arith, inl, inr, length-append, true, false, ◌<◌, ◌^◌, take, drop, get_or, ◌≤◌, append_assoc, pos, ◌-◌, rules}
pub use Rattle.std.proofs.Math.Facts.{to_z-of_z}
pub use Rattle.std.proofs.lemmas.List.{append-nil, length-map, take_more, map-append, take-append-drop, drop_more}
pub use Rattle.std.proofs.lemmas.List.Concat.{flat_map-append}
pub use Rattle.std.proofs.lemmas.List.Folds.{flat_map-map}
pub use Rattle.std.specs.Int.{w32, cast_unsigned, cast_signed}
pub use Rattle.std.specs.List.{flat_map, concat, AllByRecursion, slice_range}
pub use Rattle.std.specs.Prelude.{◌⊎◌, OnOk, nat_le, if◌then◌else◌, negsuc, suc, Result}
pub use Rattle.pgp_base.proofs.Causes.{either_then, first-append, either_first, either_left, either_right, fits_of, either_none, count_fits, count_past, length_fits, length_past}
pub use Rattle.pgp_base.proofs.Needs.{memory_then, memory_more, refused_then, writes_memory, if_err_map}
pub use Rattle.pgp_base.proofs.Parts.{int32_spelled, length-uint16, length-uint32, more_twice, if_err_at, cut_back, front_then, left_same, filled2, nothing_more, sized2, filled4, sized4, length-int32}
pub use Rattle.pgp_base.specs.Calls.{Yielded}
pub use Rattle.pgp_base.specs.Cause.{Cause, either, count_cause, length_cause, Wants, WantsMemory, first, text_cause, Writes}
pub use Rattle.pgp_base.specs.Held.{Held, ◌⊕◌, Leaves}
pub use Rattle.pgp_base.specs.Wire.{uint16, uint32, int32, frame, text, HasNoZero, int16, oid}
pub use Rattle.pgp_base.specs.declared.error.Error.{Error}
pub use Rattle.pgp_frontend.proofs.Frames.{frame_room, frame_done, frame_fits, frame_passes, frame_refused, tagged}
pub use Rattle.pgp_frontend.proofs.Needs.{framed_length, tagged_length}
pub use Rattle.pgp_frontend.specs.Payload.{Part, Byte, Rest, joined, parts_cause, frame_cause, framed, spelling, part_cause, key_cause, WritesFrame, Int32}
pub use Rattle.pgp_frontend.specs.Putting.{PutsParts, PartsRefused}
pub use Rattle.pgp_frontend.specs.View.{parts_of}
pub use Rattle.pgp_message.specs.BackendMessage.{Message, tag_of, Request, payload_of, code_of, details_of, Fits, Spells, AuthenticationOk, AuthenticationKerberosV5, AuthenticationCleartextPassword, AuthenticationMd5Password, AuthenticationScmCredential, AuthenticationGss, AuthenticationGssContinue, AuthenticationSspi, AuthenticationSasl, AuthenticationSaslContinue, AuthenticationSaslFinal, ParseComplete, BindComplete, CloseComplete, NotificationResponse, CommandComplete, DataRow, ErrorResponse, CopyInResponse, CopyOutResponse, EmptyQueryResponse, BackendKeyData, NegotiateProtocolVersion, NoticeResponse, Authentication, ParameterStatus, RowDescription, ReadyForQuery, CopyDone, CopyData, NoData, PortalSuspended, ParameterDescription}
pub use Rattle.pgp_message_write.specs.Ending.{number_cause, list_parts}
pub use Rattle.pgp_message_write.specs.Given.{uncounted, items_cause, Arrived, SoFarRefused, GivenRefused, WritesBytes, WritesGiven}
pub use Rattle.pgp_message_write.specs.Lists.{counted_list, wide_list, marked_list, column_parts, field_parts, format_parts, text_parts, type_parts, value_parts, with_list, shown}
pub use Rattle.pgp_message_write.specs.Reply.{parts, bytes_of, cause, IsInRange, IsRowValue, IsColumn, IsOption, IsMechanism, fields_of, names_of, IsReply, WritesList, formats_of, types_of, negotiation_of, row_of, description_of}
pub use Rattle.pgp_message_write.specs.Views.{shown_field, shown_column}
