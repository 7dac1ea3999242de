-- The names of other crates and of this one's specs that several proofs cite, passed on from one place. Declares nothing.
pub use Rattle.std.proofs.Common.{◌≡◌, ◌⊎◌, ℕ, ◌+◌, ◌<◌, Bool, true, false, List, [], ◌∷◌, ◌++◌, length, get_or, drop, Option, Some, None, refl, sym, ap, subst, ◌∙◌, inl, inr, arith, append_assoc, length-append, ℤ, Ok, ◌-◌, ◌≤◌, ◌^◌, take, Result, Err, ◌≢◌, map, pos, suc, zero, min, ◌*◌, negsuc, rules}
pub use Rattle.std.proofs.KnownBytes.{Appends-nil, Appends-trans, Consumes-nil, Consumes-trans, Consumes-kept, Consumes-whole, Keeps-refl}
pub use Rattle.std.proofs.Math.Nat.{min-eq_left, min-eq_right, min-le_right}
pub use Rattle.std.proofs.Math.Seq.{take-append-add, drop-append_seam, take-append_seam}
pub use Rattle.std.proofs.lemmas.Bool.{le-ltb, cases_Bool, eqb-true, true≢false, cases_order, le-leb, leb-true, lt-ltb, and_from, and_parts}
pub use Rattle.std.proofs.lemmas.List.{append-nil, take_all, drop-drop, length-drop, length-map, length-take, map_push, take_rest}
pub use Rattle.std.proofs.lemmas.List.Concat.{flat_map-cons}
pub use Rattle.pgtrace_lines.specs.Common.{w32, w64, from_be_bytes, w16, Appends, Keeps, Consumes, IsAtEnd, concat, list_any, flat_map, AllByRecursion, list_all, bytes_eq, IsUtf8, IsAscii, all_scalars, chars, encode_utf8_all, IsBytes, counted, nullable, oid, uint16, Error, CancelRequest, PasswordMessage, SaslInitialResponse, SaslResponse, ClientMessage, PasswordKind, step_of, Unread, NoneStands, StopsAtLength, SkipsFrame, StopsAt, Refuses, Step, IsPartial, ClientError, Part, Name, Key, Member, Number, Text, Hidden, followed, closing, Length, Tag, opening, Count, ListEnds, ObjectEnds, Refusal, ListBegins, ObjectBegins, Word, Lsn, Oid, Value, Binary, added, added_by, blanks, closing_by, is_opening, json, json_name, named, opening_by, right, separator, space, spelt, string, type_name, key, Json, Columns, Style, Message, payload_of, AuthenticationMd5Password, AuthenticationGssContinue, AuthenticationSaslContinue, AuthenticationSaslFinal, BackendKeyData, Authentication, Body, AuthenticationOk, AuthenticationKerberosV5, AuthenticationCleartextPassword, AuthenticationScmCredential, AuthenticationGss, AuthenticationSspi, AuthenticationSasl, ParseComplete, BindComplete, CloseComplete, NotificationResponse, CommandComplete, DataRow, ErrorResponse, CopyInResponse, CopyOutResponse, EmptyQueryResponse, NegotiateProtocolVersion, NoticeResponse, ParameterStatus, RowDescription, ReadyForQuery, CopyDone, CopyData, NoData, PortalSuspended, ParameterDescription, IsLengthFault, Frame, frame_bytes, TakesFrame, IsFrame, IsEnding, Frames, BackendRun, view, AppendsFront, Phase, Beginning, Messages, Replicating, Encrypted}
pub use Rattle.std.specs.Prelude.{◌==◌, if◌then◌else◌, codes, slice_index, IfNone, ◌||◌, OnOk, ◌/◌, All, slice_get, ◌%◌, nat_le, nat_lt, decimal, IfOk, IfSome, OnErr, string_bytes}
pub use Rattle.pgp_base.proofs.PartLemmas.{number_takes, oid_number, uint64_number, uint16_number}
pub use Rattle.pgp_base.proofs.Spellings.{number_begins, number_reads}
pub use Rattle.pgp_base.specs.PartReading.{front_at, uint16_at, text_at, Gives, byte_at, oid_at}
pub use Rattle.pgp_base.specs.Reading.{BeginsNoOther, ReadsSpelling}
pub use Rattle.pgp_base.specs.Walk.{Walk, TakesItem, IsFinished, IsRefused}
unfoldable pub use Rattle.pgp_base.specs.Wire.{uint32, uint64}
pub use Rattle.pgp_base.specs.declared.error.Error.TheVariants.{InvalidLength, TooLarge}
pub use Rattle.pgp_frontend.specs.Payload.{framed, payload, tag_of, bytes_of}
pub use Rattle.pgp_frontend_read.proofs.OneStep.{step_one}
pub use Rattle.pgp_frontend_read.proofs.Headers.{begins_behind}
pub use Rattle.pgp_frontend_read.proofs.Refusals.{partial_waits}
pub use Rattle.pgp_frontend_read.proofs.Steps.{payload_fits, step_fault}
unfoldable pub use Rattle.pgtool_line.specs.Line.{extended, comma, lsn}
pub use Rattle.pgp_message.proofs.Runs.{front_is_one, no_ending, runs_one, frames_none, frames_next, each_push, pushed}
pub use Rattle.pgp_message.specs.Items.{TextSpelled, TextRefused, FormatSpelled, FormatRefused, TypeSpelled, TypeRefused, RangeSpelled, RangeRefused, FieldSpelled, FieldRefused, ErrorFieldSpelled, ErrorFieldRefused}
pub use Rattle.pgtool_line.specs.Words.{greatest}
pub use Rattle.pgtrace_lines.specs.Client.{client_line, grouped, ClientSays, client_copied, client_data, client_name, client_called, client_groups, refusal_parts, client_value, first_text, signed_part, pair_parts}
pub use Rattle.pgtrace_lines.specs.Listing.{IsAnswerLine, IsListing, LineOf, Listed, Lines, Rows, NoLines, OneLine, answer_line, answer_name, last_line, name_in, place_behind, EndsSo, client_frame_name, client_front, IsNextLine, client_tag, front, unread_name, GoesOn, IsLineOf, IsServerLine, server_name, IsRunBehindAnswers, IsReady, WasListed, WritesListing, IsCutShort}
pub use Rattle.pgtrace_lines.specs.Names.{name_of, state_of}
pub use Rattle.pgtrace_lines.specs.Options.{AreOptions, AreNoOptions, BeginsWithNone, BeginsWithNoneOf, Chosen, IsOneOf, argument_of, chooses, chosen_by, nothing_chosen, word_of, chosen_of}
pub use Rattle.pgtrace_lines.specs.PlainBody.{numbers_of, IsCallResult, IsCopyBoth}
pub use Rattle.pgtrace_lines.specs.Replication.{Inner, IsInner, IsInt32, IsInt64, XLogData, Keepalive, StatusUpdate, Feedback, spelled, ShowsInner, inner_parts, data_parts, clock_parts}
pub use Rattle.pgtrace_lines.specs.Secrets.{quiet, quietly, Alike, AlikeBeginnings, AlikeResults, AlikeFrames, AlikeReceived, AlikeStreams, NoFrames, OneAlike}
pub use Rattle.pgtrace_lines.specs.Shown.{Says, called, inner_data, Shows, closed, ending, refused, list_of, number_part, ShowsCounted, ShowsMarked, ShowsTexts, bare, column_parts, field_parts, name_or, text_part, type_part, value_part, says_nothing}
pub use Rattle.pgtrace_lines.specs.Sides.{Side, Server, AreAnswers, Ends, answered, phase_behind, replicates_behind, server_at, Client, expected, is_reported, kinds_behind, is_password, IsRefusedPacket, replicates}
pub use Rattle.pgtrace_lines.specs.Steps.{HasLine, ListsNext, phase_of, IsFrameOf, IsNamedLine, ReportsFault, ListsAll, ListsSome, Held, Holds, ListsPiece, side_of, view_of}
pub use Rattle.pgtrace_lines.specs.Unread.{ShowsUnread, ShowsCopyBoth, ShowsResult, CallResult, CopyBoth, Rejected, copy_parts, result_parts}
pub use Rattle.pgtrace_lines.specs.View.{View, shown, has_word, is_listed, color_by, color_of, ends_in_newline, painted, uncolored}
