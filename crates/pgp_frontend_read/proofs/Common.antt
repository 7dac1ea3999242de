-- The names of other crates and of this one's specs that several proofs cite, passed on from one place. Declares nothing.
pub use Rattle.std.proofs.Common.{◌≡◌, ℕ, ℤ, List, [], ◌∷◌, Option, Some, Ok, refl, ◌≢◌, ◌<◌, ◌^◌, ◌++◌, length, None, Result, Err, sym, ap, subst, ◌∙◌, append_assoc, arith, map, FitsSigned, pos, zero, suc, ◌+◌, ◌-◌, ◌≤◌, true, false, inl, inr, length-append, Bool, get_or, take, drop, length-take, length-drop, ◌*◌, rules, to_z, of_z, Bor}
pub use Rattle.std.proofs.lemmas.Bool.{eqb-true, eq-eqb, ltb-true, ltb-false, leb-true, ne_eqb, le-ltb, leb-false, lt-leb, cases_Bool, cases_lt, lt-ltb}
pub use Rattle.std.proofs.lemmas.Bool.Decides.{nat_tests}
pub use Rattle.std.proofs.lemmas.Int.{to_z_pos, of_z-to_z, to_z-of_z}
pub use Rattle.std.proofs.lemmas.List.{append-nil, take_all, take-append-drop, take_at, take-append-le, drop_all, drop_at, map-append}
pub use Rattle.std.proofs.lemmas.List.Elements.{recursion_from_All, All-from_recursion}
pub use Rattle.std.specs.Int.{w16, w32, from_be_bytes, cast_signed, cast_unsigned, to_be_bytes}
pub use Rattle.std.specs.List.{flat_map, AllByRecursion}
pub use Rattle.std.specs.Prelude.{◌==◌, ◌⊎◌, nat_lt, nat_le, IfSome, ◌||◌, IfOk, IsErr, is_some, option_to_list, slice_index, if◌then◌else◌}
pub use Rattle.std.specs.Result.{IsErrAnd}
pub use Rattle.pgp_base.proofs.Binds.{err, err_is}
pub use Rattle.pgp_base.proofs.Causes.{count_fits, counts_of, either_left, either_right, either_none, length_fits, fits_of}
pub use Rattle.pgp_base.proofs.CountedLemmas.{ok, ok_is, differ}
pub use Rattle.pgp_base.proofs.PartLemmas.{IsNumber, int16_number, int32_number, oid_number, uint16_number, number_takes, number_again, number_short, no_string, IsBytes-take, IsBytes-drop, front_again, short_number, string_none, string_falls}
pub use Rattle.pgp_base.proofs.Parts.{null_spelled, int32_spelled, nothing_more, more_twice, length-uint32}
pub use Rattle.pgp_base.proofs.Prefixes.{uint32_begins, fronts}
pub use Rattle.pgp_base.proofs.Strings.{string_takes, string_front, string_whole, some_is}
pub use Rattle.pgp_base.specs.Cause.{Cause, first, text_cause, count_cause, nullable_cause, length_cause, Writes, either}
pub use Rattle.pgp_base.specs.Held.{Held, ◌⊕◌}
pub use Rattle.pgp_base.specs.PartReading.{string_at, ◌>>=◌, front_at, byte_at, uint16_at, oid_at}
pub use Rattle.pgp_base.specs.WalkReading.{marked_run, read_on, drained, is_marked, marked}
pub use Rattle.pgp_base.specs.Wire.{IsBytes, oid, nullable, counted, text, HasNoZero}
unfoldable pub use Rattle.pgp_base.specs.Wire.{int16, int32, uint16, uint32}
pub use Rattle.pgp_base.specs.declared.error.Error.{Error}
pub use Rattle.pgp_base.specs.declared.error.Error.TheVariants.{UnknownTag, UnexpectedEof, NotDrained, InvalidValueLength, InvalidLength}
pub use Rattle.pgp_frontend.proofs.Needs.{null_length, minor_fits}
pub use Rattle.pgp_frontend.proofs.Readings.{EachHasSpelling, spelled_parts, tagged_bodies, tag_in, bodies, frame_read, opening_read}
pub use Rattle.pgp_frontend.specs.ClientMessage.{Bind, Parse, ClientMessage, Close, CopyData, CopyDone, CopyFail, Describe, Execute, Flush, PasswordMessage, Query, SaslInitialResponse, SaslResponse, Sync, Terminate, Startup, CancelRequest, SslRequest, GssEncRequest, FunctionCall, PasswordKind, Password, Initial, Response}
pub use Rattle.pgp_frontend.specs.ClientRun.{ClientRun, is_startup, IsRequest, IsStartup, IsTagged, AreInOrder, kinds_of}
pub use Rattle.pgp_frontend.specs.Payload.{Values, key_cause, pair, pair_cause, spelling, part_cause, joined, Part, Int32, Key, Pairs, parts, tag_of, kind_of, HasMinor, payload, parts_cause, EachInRange, bytes_of, framed, minor_code, Rest, Text, Int16, Int16s, Oid, Oids, WritesFrame, WritesMessage, cause}
pub use Rattle.pgp_frontend.specs.Reading.{Shape, AByte, AnInt16, AnInt32, AnOid, AText, SomeInt16s, SomeOids, SomeValues, ANullable, AllBytes, AKey, SomePairs, HasSpelling, shape, IsNamed, IsSpelled}
pub use Rattle.pgp_frontend_read.specs.Content.{Content, Contents, Then, part, parts_of}
pub use Rattle.pgp_frontend_read.specs.Faults.{IsPair, TakesAll, IsShort, HasWrongLength, LacksValue, LacksItems, IsCutPair, LacksEnd, Lacks, Faulty}
pub use Rattle.pgp_frontend_read.specs.Forwards.{Forwards, WritesAll, Appends}
pub use Rattle.pgp_frontend_read.specs.Holding.{HasSize, IsReadAs, IsFrameOf, header, Fits, IsWanted, wanted, is_whole, Sizes, Fills, IsLeft, Opens, StandsInPiece, TakesOff, Holds, Completes}
pub use Rattle.pgp_frontend_read.specs.Pieces.{IsWhole, HandsOut, step_of, IsWithin, limit_of, Waiting, Parses, unread}
pub use Rattle.pgp_frontend_read.specs.Reading.{type_at, format_at, ended, content_at, contents_at, contents_on, before, items_at, unless, items_on, with_front, value_after, all_of, made, reported_of, named, by_front, Left, AreLeft, items_of}
unfoldable pub use Rattle.pgp_frontend_read.specs.Reading.{parse_of, bind_of, counted_at, value_at, key_at, pair_at, pairs_at, close_of, describe_of, execute_of, function_call_of, query_of, copy_fail_of, password_of, sasl_initial_of, body_of, startup_of, cancel_of, by_code, packet_of}
pub use Rattle.pgp_frontend_read.specs.Reads.{HasRead, kinds_behind, Reads, IsEnd, IsAllRead, next_kind, ReadsSession, end_of}
pub use Rattle.pgp_frontend_read.specs.Step.{BlamesFrame, BlamesPacket, Unread, place, least, announced, BeginsWithLength, IsLengthFault, IsPartial, IsFront, Stands, Refuses, Step, IsUnknownPacket, SkipsFrame, StopsAt, StopsAtLength, Takes, IsExpected, NoneStands}
pub use Rattle.pgp_frontend_read.specs.Views.{view, read, kind_view}
pub use Rattle.pgp_frontend_read.specs.Whole.{behind, RestOf, plain, shown}
pub use Rattle.pgp_frontend_read.specs.declared.client_frame.ClientFrame.{ClientFrame}
pub use Rattle.pgp_frontend_read.specs.declared.error.ClientError.{ClientError}
pub use Rattle.pgp_frontend_read.specs.declared.error.ClientError.TheVariants.{UnknownPacket, Reading}
pub use Rattle.pgp_frontend_read.specs.declared.limits.Limits.{Limits}
pub use Rattle.pgp_frontend_read.specs.declared.parser_error.ParserError.{ParserError}
