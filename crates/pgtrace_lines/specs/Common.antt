-- Names of other crates and of the code that several definitions cite, passed on from one place. Declares nothing.
pub use Rattle.pgp_base.specs.Wire.{counted, IsBytes, nullable, oid, uint16, uint32, uint64}
pub use Rattle.pgp_base.specs.declared.error.Error.{Error}
pub use Rattle.pgp_frontend.specs.ClientMessage.{Bind, CancelRequest, ClientMessage, Close, CopyFail, Describe, Execute, Flush, FunctionCall, GssEncRequest, Parse, PasswordKind, PasswordMessage, Query, SaslInitialResponse, SaslResponse, SslRequest, Startup, Sync, Terminate}
pub use Rattle.pgp_frontend_read.specs.Pieces.{step_of}
pub use Rattle.pgp_frontend_read.specs.Step.{IsPartial, NoneStands, Refuses, SkipsFrame, Step, StopsAt, StopsAtLength, Unread}
pub use Rattle.pgp_frontend_read.specs.Views.{kind_view}
pub use Rattle.pgp_frontend_read.specs.Whole.{shown}
pub use Rattle.pgp_frontend_read.specs.declared.error.ClientError.{ClientError}
pub use Rattle.pgtool_line.specs.Line.{added, added_by, Binary, blanks, closing, closing_by, Count, followed, Hidden, is_opening, json, json_name, key, Key, Length, ListBegins, ListEnds, Lsn, Member, Name, named, Number, ObjectBegins, ObjectEnds, Oid, opening, opening_by, Part, Refusal, right, separator, space, spelt, string, Tag, Text, type_name, Value, Word}
pub use Rattle.pgtool_line.specs.Secret.{response_parts, secret}
pub use Rattle.pgtool_line.specs.declared.style.Form.{Form}
pub use Rattle.pgtool_line.specs.declared.style.Form.TheVariants.{Columns, Json}
pub use Rattle.pgtool_line.specs.declared.style.Style.{Style}
pub use Rattle.pgp_message.specs.BackendMessage.{Authentication, AuthenticationCleartextPassword, AuthenticationGss, AuthenticationGssContinue, AuthenticationKerberosV5, AuthenticationMd5Password, AuthenticationOk, AuthenticationSasl, AuthenticationSaslContinue, AuthenticationSaslFinal, AuthenticationScmCredential, AuthenticationSspi, BackendKeyData, BindComplete, Body, CloseComplete, CommandComplete, CopyData, CopyDone, CopyInResponse, CopyOutResponse, DataRow, EmptyQueryResponse, ErrorResponse, Message, NegotiateProtocolVersion, NoData, NoticeResponse, NotificationResponse, ParameterDescription, ParameterStatus, ParseComplete, payload_of, PortalSuspended, ReadyForQuery, RowDescription}
pub use Rattle.pgp_message.specs.Stream.{BackendRun, Frame, frame_bytes, Frames, IsEnding, IsFrame, IsLengthFault, TakesFrame}
pub use Rattle.pgp_message.specs.Table.{IsPlaceIn, value_at}
pub use Rattle.pgp_message.specs.Views.{view}
pub use Rattle.pgtool_line.specs.Run.{Caused, Streams}
pub use Rattle.pgtool_line.specs.Taken.{AppendsFront}
pub use Rattle.pgtrace_lines.specs.declared.side.Phase.{Phase}
pub use Rattle.pgtrace_lines.specs.declared.side.Phase.TheVariants.{Beginning, Encrypted, Messages, Replicating}
pub use Rattle.std.specs.Int.{cast_signed, from_be_bytes, w16, w32, w64}
pub use Rattle.std.specs.Io.KnownBytes.{Appends, Consumes, IsAtEnd, Keeps}
pub use Rattle.std.specs.List.{AllByRecursion, concat, flat_map, list_all, list_any, slice_split}
pub use Rattle.std.specs.Option.{option_map}
pub use Rattle.std.specs.Str.{all_scalars, bytes_eq, chars, encode_utf8_all, IsAscii, IsUtf8}
