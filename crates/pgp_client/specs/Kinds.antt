-- What the messages of both sides are in a dialogue.
use Rattle.std.specs.Prelude.{◌≡◌, ℕ, List, [], ◌∷◌, Option, Some, None, if◌then◌else◌, ◌==◌}
use Rattle.pgp_frontend.specs.ClientMessage.{ClientMessage, Bind, Close, CopyDone, CopyFail, Describe, Execute, FunctionCall, Parse, Query, Sync, Startup}
use Rattle.pgp_message.specs.ServerMessage as backend
use Rattle.pgp_client.specs.declared.kind.Kind.{Kind}
use Rattle.pgp_client.specs.declared.request.Request.{Request}
use Rattle.pgp_client.specs.declared.request.Request.TheVariants as requests
use Rattle.pgp_client.specs.declared.kind.Kind.TheVariants.{Authentication, AuthenticationOk, BackendKeyData, BindComplete, CloseComplete, CommandComplete, CopyBothResponse, CopyData, CopyDone as CopyDoneKind, CopyInResponse, CopyOutResponse, DataRow, EmptyQueryResponse, ErrorResponse, FunctionCallResponse, NegotiateProtocolVersion, NoData, NoticeResponse, NotificationResponse, ParameterDescription, ParameterStatus, ParseComplete, PortalSuspended, ReadyForQuery, RowDescription}

abbrev pub kind_of : backend.Message → Kind
kind_of backend.ParseComplete = ParseComplete
kind_of backend.BindComplete = BindComplete
kind_of backend.CloseComplete = CloseComplete
kind_of (backend.NotificationResponse n) = NotificationResponse
kind_of (backend.CommandComplete tag) = CommandComplete
kind_of (backend.DataRow row) = DataRow
kind_of (backend.ErrorResponse bytes) = ErrorResponse
kind_of (backend.CopyInResponse copy) = CopyInResponse
kind_of (backend.CopyOutResponse copy) = CopyOutResponse
kind_of backend.EmptyQueryResponse = EmptyQueryResponse
kind_of (backend.BackendKeyData key) = BackendKeyData
kind_of (backend.NegotiateProtocolVersion n) = NegotiateProtocolVersion
kind_of (backend.NoticeResponse bytes) = NoticeResponse
kind_of (backend.Authentication backend.AuthenticationOk) = AuthenticationOk
kind_of (backend.Authentication request) = Authentication
kind_of (backend.ParameterStatus setting) = ParameterStatus
kind_of (backend.RowDescription row) = RowDescription
kind_of (backend.ReadyForQuery status) = ReadyForQuery
kind_of backend.CopyDone = CopyDoneKind
kind_of (backend.CopyData bytes) = CopyData
kind_of backend.NoData = NoData
kind_of backend.PortalSuspended = PortalSuspended
kind_of (backend.ParameterDescription row) = ParameterDescription

-- `V` and `W`, which no message of that grammar has
abbrev pub kind_of_tag : ℕ → Option Kind
kind_of_tag tag = if tag == 0x56 then Some FunctionCallResponse else (if tag == 0x57 then Some CopyBothResponse else None)

-- a portal by the letter `P`, or a statement
abbrev pub described : ℕ → Request
described variant = if variant == 0x50 then requests.DescribePortal else requests.DescribeStatement

-- what a message of a client asks; none where the server doesn't answer it by itself
abbrev pub request_of : ClientMessage → Option Request
request_of (Startup minor parameters) = Some requests.Startup
request_of (Query text) = Some requests.Query
request_of (Parse name query types) = Some requests.Parse
request_of (Bind portal statement formats values result_formats) = Some requests.Bind
request_of (Close variant name) = Some requests.Close
request_of (Describe variant name) = Some (described variant)
request_of (Execute portal max_rows) = Some requests.Execute
request_of (FunctionCall function formats arguments result_format) = Some requests.FunctionCall
request_of Sync = Some requests.Sync
request_of CopyDone = Some requests.CopyDone
request_of (CopyFail reason) = Some requests.CopyFail
request_of m = None

-- the same by a tag, and by the first byte after the length
abbrev pub request_of_tag : ℕ → ℕ → Option Request
request_of_tag tag first =
    if tag == 0x51 then Some requests.Query
    else (if tag == 0x50 then Some requests.Parse
    else (if tag == 0x42 then Some requests.Bind
    else (if tag == 0x43 then Some requests.Close
    else (if tag == 0x44 then Some (described first)
    else (if tag == 0x45 then Some requests.Execute
    else (if tag == 0x46 then Some requests.FunctionCall
    else (if tag == 0x53 then Some requests.Sync
    else (if tag == 0x63 then Some requests.CopyDone
    else (if tag == 0x66 then Some requests.CopyFail
    else None)))))))))

-- the payload's first byte, where it has one
abbrev pub BeginsWith : List ℕ → ℕ → Type 0
BeginsWith [] n = Unit {0}
BeginsWith (x ∷ xs) n = n ≡ x
