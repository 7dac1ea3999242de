-- Names of other crates and of the code that several definitions cite, passed on from one place. Declares nothing.
pub use Rattle.pgp_base.specs.declared.error.Error.{Error}
pub use Rattle.pgp_client.specs.Talk.{Kept, Talk}
pub use Rattle.pgp_client.specs.Telling.{asked_in, Asks, Hears, observed_in, reported_in, start, Turn}
pub use Rattle.pgp_client.specs.declared.event.Event.{Event}
pub use Rattle.pgp_client.specs.declared.kind.Kind.{Kind}
pub use Rattle.pgp_client.specs.declared.request.Asked.{Asked}
pub use Rattle.pgtrace_session.specs.declared.awaited.Object.{Object}
pub use Rattle.pgtrace_session.specs.declared.awaited.Object.TheVariants.{Portal, Simple, Statement}
pub use Rattle.pgtrace_session.specs.declared.chunk.Sender.{Sender}
pub use Rattle.pgtrace_session.specs.declared.chunk.Sender.TheVariants.{Client, Server}
pub use Rattle.pgtrace_session.specs.declared.column.Column.{Column}
pub use Rattle.pgtrace_session.specs.declared.ending.End.{End}
pub use Rattle.pgtrace_session.specs.declared.ending.End.TheVariants.{Cut, NoChunk, NoRecording, Whole}
pub use Rattle.pgtrace_session.specs.declared.expectation.Noted.{Noted}
pub use Rattle.pgtrace_session.specs.declared.placement.Told.{Told}
pub use Rattle.pgtrace_session.specs.declared.placement.Told.TheVariants.{Answer, Lost, Nothing, Number, Uncounted}
pub use Rattle.pgtrace_session.specs.declared.role.Role.{Role}
pub use Rattle.pgtrace_session.specs.declared.start.Start.{Start}
pub use Rattle.pgtrace_session.specs.declared.start.Start.TheVariants.{At, Dated, Pending}
pub use Rattle.pgp_frontend.specs.ClientMessage.{Bind, CancelRequest, ClientMessage, Close, Describe, Execute, GssEncRequest, Parse, PasswordMessage, Query, Response, SaslInitialResponse, SaslResponse, SslRequest, Sync}
pub use Rattle.pgp_frontend_read.specs.declared.error.ClientError.{ClientError}
pub use Rattle.pgp_frontend_read.specs.declared.message.PasswordKind.{PasswordKind}
pub use Rattle.pgtool_line.specs.Line.{Binary, blanks, closing, Count, followed, Key, key, Length, ListEnds, Name, Number, opening, Part, Tag, Text, Value}
pub use Rattle.pgtool_line.specs.Quoting.{is_printable, is_visible, IsPrinted, json_value, quoted, up_to}
pub use Rattle.pgtool_line.specs.declared.style.Form.{Form}
pub use Rattle.pgtool_line.specs.declared.style.Form.TheVariants.{Columns, Json}
pub use Rattle.pgtool_line.specs.declared.style.Style.{Style}
pub use Rattle.pgp_message.specs.BackendMessage.{Authentication, AuthenticationCleartextPassword, AuthenticationGss, AuthenticationGssContinue, AuthenticationMd5Password, AuthenticationOk, AuthenticationSasl, AuthenticationSaslContinue, AuthenticationSaslFinal, AuthenticationSspi, BackendKeyData, BindComplete, Body, CloseComplete, DataRow, Message, NoData, ParameterDescription, ParseComplete, ReadyForQuery, RowDescription}
pub use Rattle.pgp_message.specs.Table.{HasPlaces, IsPlaceIn, value_at}
pub use Rattle.pgtrace_summary.specs.Names.{found, put, without}
pub use Rattle.pgtool_line.specs.Interruptions.{GivesUp, NoRead, StopsReading}
pub use Rattle.pgtool_line.specs.Run.{Caused, IsSaid, IsUnread, Streams}
pub use Rattle.pgtool_line.specs.Taken.{AppendsFront}
pub use Rattle.pgtool_line.specs.Words.{AreWords, greatest, LacksWords}
pub use Rattle.pgtool_line.specs.declared.fault.Fault.{Fault}
pub use Rattle.pgtool_line.specs.declared.fault.Fault.TheVariants.{Memory, Read, Write}
pub use Rattle.pgtrace_summary.specs.Runs.{line_of, Tally}
pub use Rattle.pgtrace_summary.specs.Summary.{asked, ended, failed, nothing, row, State}
pub use Rattle.pgtrace_lines.specs.Hints.{hint_of}
pub use Rattle.pgtrace_lines.specs.Listing.{client_frame_name, IsServerLine, last_line, LineOf, name_in, place_behind, server_name, streams}
pub use Rattle.pgtrace_lines.specs.Options.{AreOptions, Chosen, chosen_of, options_in, view_by}
pub use Rattle.pgtrace_lines.specs.Shown.{ending, refused}
pub use Rattle.pgtrace_lines.specs.Sides.{answered, Ends, expected, first_phase, is_password, is_reported, replicates_behind, server_at, Side}
pub use Rattle.pgtrace_lines.specs.View.{color_of, has_word, is_listed, painted, shown, View}
pub use Rattle.pgtrace_lines.specs.declared.marking.Marking.{Marking}
pub use Rattle.pgtrace_lines.specs.declared.side.Phase.TheVariants.{Beginning, Encrypted, Messages, Replicating}
pub use Rattle.pgp_value_text.specs.TextOf.{IsTextOf}
pub use Rattle.std.specs.Io.KnownBytes.{Appends, Consumes, IsAtEnd, Keeps}
pub use Rattle.std.specs.List.{AllByRecursion, flat_map, list_all}
pub use Rattle.std.specs.Option.{option_map}
