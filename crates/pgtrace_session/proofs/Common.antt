-- The names of other crates and of this one's specs that several proofs cite, passed on from one place. Declares nothing.
pub use Rattle.std.proofs.Common.{◌≡◌, ℕ, ℤ, List, get_or, Result, Ok, Err, Some, refl, ap, ◌∙◌, ◌+◌, ◌≤◌, Bool, true, false, [], ◌++◌, length, take, drop, min, Option, sym, subst, arith, length-append, ◌≢◌, ◌<◌, ◌^◌, ◌∷◌, append_assoc, suc, ◌-◌, inl, inr, None, ◌⊎◌, rules}
pub use Rattle.std.proofs.KnownBytes.{Appends-trans, Appends-nil, Consumes-nil, Consumes-trans, Consumes-kept, Keeps-refl, Keeps-trans}
pub use Rattle.std.proofs.Math.Seq.{take-append_seam, drop-append_seam}
pub use Rattle.std.proofs.lemmas.Bool.{eqb-true, and_parts, true≢false, false≢true}
pub use Rattle.std.proofs.lemmas.Grind.{flat_map-append}
pub use Rattle.std.proofs.lemmas.List.{append-nil, length-take, take-append-drop, take-append-le, drop-drop, length-map}
pub use Rattle.std.proofs.lemmas.List.Concat.{flat_map-cons}
pub use Rattle.std.specs.Int.{w32, w64, from_be_bytes}
pub use Rattle.pgtrace_session.specs.Common.{Appends, Consumes, IsAtEnd, flat_map, AllByRecursion, list_all, option_map, Error, ClientMessage, SaslResponse, Bind, Response, ClientError, PasswordKind, Part, ListEnds, Value, closing, followed, blanks, Count, Length, Name, Tag, Text, key, opening, IsPrinted, is_printable, json_value, quoted, up_to, Form, Json, Columns, Style, Authentication, Message, DataRow, ParameterDescription, RowDescription, Body, AuthenticationOk, value_at, HasPlaces, IsPlaceIn, Streams, AppendsFront, greatest, Tally, line_of, State, place_behind, name_in, LineOf, IsServerLine, server_name, client_frame_name, ending, refused, Ends, Side, expected, answered, is_reported, replicates_behind, server_at, View, color_of, has_word, is_listed, painted, shown, Marking, Beginning, Messages, Replicating, Encrypted, Sender, Client, Server, Start, Dated, Pending, At, Column, End, Noted, Told, Role, Execute, Key, Number, Whole, Cut, NoChunk, NoRecording}
pub use Rattle.std.specs.Prelude.{OnOk, codes, OnErr, nat_lt, if◌then◌else◌, ◌==◌, map, ◌/◌, ◌%◌, decimal, IfOk, ◌||◌, ◌&&◌, is_some, not, bytes_eq, string_bytes, IfErr}
pub use Rattle.std.specs.declared.ops.Range.{Range}
pub use Rattle.pgp_base.proofs.PartLemmas.{IsBytes-drop, IsBytes-take, oid_number, uint64_number}
pub use Rattle.pgp_base.proofs.Parts.{on_err}
pub use Rattle.pgp_base.specs.Walk.{Walk, TakesItem, IsFinished, IsRefused}
pub use Rattle.pgp_base.specs.Wire.{uint32, uint64, IsBytes}
pub use Rattle.pgp_client.specs.Kinds.{kind_of, kind_of_tag, request_of, request_of_tag}
pub use Rattle.pgp_frontend_read.proofs.OneStep.{step_one}
pub use Rattle.pgp_frontend_read.specs.Pieces.{step_of}
pub use Rattle.pgp_frontend_read.specs.Views.{kind_view, view}
pub use Rattle.pgp_message.proofs.Bodies.{one_body}
pub use Rattle.pgp_message.proofs.Runs.{front_is_one, length-frame, no_ending}
pub use Rattle.pgp_message.specs.Items.{FieldPart}
pub use Rattle.pgp_message.specs.Parts.{CountedBytes}
pub use Rattle.pgp_message.specs.Stream.{Frame, IsEnding, IsFrame, Step, TakesFrame, frame_bytes}
pub use Rattle.pgtrace_lines.proofs.Ends.{stays_ended, nothing_ends}
pub use Rattle.pgtrace_lines.proofs.Fronts.{more_taken, none_taken, all_taken, kept_nothing}
pub use Rattle.pgtrace_lines.proofs.Printable.{blank, plain, plain_join, plain_number, join, line_printable, cut, json_val, quote, closing_printable, opening_printable, parts_printable, Plain}
pub use Rattle.pgtrace_lines.proofs.Traces.{ok_then, called_more}
pub use Rattle.pgtrace_lines.specs.Client.{counted, signed_part, client_name}
pub use Rattle.pgtrace_lines.specs.ClientSecrets.{AlikeAnswers, AlikeMessages, ReadsAs}
pub use Rattle.pgtrace_lines.specs.Secrets.{Alike, AlikeResults, AlikeFrames, quiet, quietly}
pub use Rattle.pgtrace_lines.specs.Steps.{HasLine, IsFrameOf, view_of}
pub use Rattle.pgtrace_lines.specs.declared.frame.Next.TheVariants.{Line}
pub use Rattle.pgtrace_session.specs.Conversation.{asks, noted_by, requests, Half, Known, Talk, ListsFrame, ListsFrames, NoLines, OneLine, now_at, side_in, with_numbers, ListsChunk, ListsChunks, NoChunkListed, OneChunkListed, at_first, begins, half_in, other, as_standby, note, noted_in, replicates_in, text_of, told_by, with_kind, with_side, with_types, last_lines, is_replicating, first_start, last_of, left, answer_to, called, counts, either, relined, waited}
pub use Rattle.pgtrace_session.specs.Marks.{IsMark, ShowsTime, day_of, mark, origin, since, started, time_width, word, marked, between, last_mark, later, member, members, says, width_of}
unfoldable pub use Rattle.pgtrace_session.specs.Marks.{clock, fraction, millis, number}
pub use Rattle.pgtrace_session.specs.Pieces.{Follows, SumsRecording, ListsAllChunks, ListsPiece, ListsSome, Stays, Tracks, TracksTo, held_first, held_last}
pub use Rattle.pgtrace_session.specs.Recording.{Chunk, IsShort, arrow, magic, EndsBy, IsChunk, IsNoChunk, IsPartial, Records, chunk_bytes, beginning, complaint_of}
pub use Rattle.pgtrace_session.specs.Requests.{asked_by, heard_as, kind_by, Numbers, at_time, role_by, role_in, asking, summary_in, unnumbered, first_numbers, placed, tell, notes_nothing}
pub use Rattle.pgtrace_session.specs.Session.{CutsLines, CutsListing, HasLines, IsListing, Awaits, IsCutShort, IsReadTo, IsReady, WasListed, summarized}
pub use Rattle.pgtrace_session.specs.Shelves.{formatted, formatted_from, is_binary}
pub use Rattle.pgtrace_session.specs.Steps.{ListsBytes, ListsChunkTo, HeldHalf, HeldTalk, Holds, Keeps, ListsAllFrames, TakesChunk, ListsOneFrame, known_of, TakesPart, AddsDay, AddsInstant, AddsTime, is_date, chunk_of, end_of, numbers_in, half_of, kept_of, KnowsNext}
pub use Rattle.pgtrace_session.specs.Summing.{placed_by, places, runs, sent_in, summed_so, takes_note, with_summary}
pub use Rattle.pgtrace_session.specs.Tables.{cell, columns, heading, row_by, row_of, times, ending_by, table, row_in}
pub use Rattle.pgtrace_session.specs.Typed.{Heard, Said, Sent, Unsaid, Learns, said_in, ShowsTyped, Gives, Hears, IsBindLine, IsRowLine, Lists, ShowsBound, ShowsBytes, ShowsFitting, ShowsHeard, ShowsRow, ShowsSent, ShowsValue, ShowsValues, bind_front, column_first, columns_from, columns_of, executed, fits, has_binary, names_from, names_parts, parameters_in, row_front, parameter, sends, with_field}
pub use Rattle.pgtrace_session.specs.TypedLines.{Reads, Passes, ReadsSo, ShowsRequest, Tells, lost, AddsValue, AddsValues}
pub use Rattle.pgtrace_session.specs.Types.{Types, Awaited, described, first, reached, rows_of, tells}
pub use Rattle.pgtrace_session.specs.TypesKept.{queue_of, types_of, types_in}
pub use Rattle.pgtrace_session.specs.declared.expectation.Noted.TheVariants.{Asks, Answers, Nothing}
pub use Rattle.pgtrace_session.specs.Several.{tallies_in, CutsFile, CutsTable, ListsFile, ListsRecording, ListsTable, AddsFiles, OneFile, NoFile}
pub use Rattle.pgtrace_lines.proofs.Rows.{RowsTo, one_listed, counted_on, SameFirst, rows_one, nothing_yet}
pub use Rattle.pgtrace_lines.proofs.OneListing.{same_result, one_read, ends_one, line_one, no_line}
pub use Rattle.pgtrace_session.specs.declared.placement.Told.TheVariants.{Uncounted}
pub use Rattle.pgtrace_lines.specs.Hints.{hint_of}
pub use Rattle.pgtrace_summary.specs.Runs.{tally_after}
pub use Rattle.pgtrace_lines.proofs.AlikeCases.{heard_alike, results_alike, sent_alike, answers_alike}
pub use Rattle.pgtrace_lines.proofs.Parts.{saturates, front_taken}
