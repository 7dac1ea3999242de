-- The code's messages as what they say.
use Rattle.std.specs.Prelude.{Option, Some, None, Result, Ok, Err}
use Rattle.pgp_base.specs.declared.error.Error.{Error}
use Rattle.pgp_message.specs.declared.message as code
use Rattle.pgp_message.specs.declared.message.Message.TheVariants as variants
use Rattle.pgp_message.specs.BackendMessage.{AuthenticationOk, AuthenticationKerberosV5, AuthenticationCleartextPassword, AuthenticationMd5Password, AuthenticationScmCredential, AuthenticationGss, AuthenticationGssContinue, AuthenticationSspi, AuthenticationSasl, AuthenticationSaslContinue, AuthenticationSaslFinal, Message, ParseComplete, BindComplete, CloseComplete, NotificationResponse, CommandComplete, DataRow, ErrorResponse, CopyInResponse, CopyOutResponse, EmptyQueryResponse, BackendKeyData, NegotiateProtocolVersion, NoticeResponse, Authentication, ParameterStatus, RowDescription, ReadyForQuery, CopyDone, CopyData, NoData, PortalSuspended, ParameterDescription}

-- a message's variant, with what its body holds
abbrev pub view : {A : Type 0} → code.Message.Message A → Message
view variants.AuthenticationOk = Authentication AuthenticationOk
view variants.AuthenticationKerberosV5 = Authentication AuthenticationKerberosV5
view variants.AuthenticationCleartextPassword = Authentication AuthenticationCleartextPassword
view (variants.AuthenticationMd5Password salt) = Authentication (AuthenticationMd5Password salt)
view variants.AuthenticationScmCredential = Authentication AuthenticationScmCredential
view variants.AuthenticationGss = Authentication AuthenticationGss
view (variants.AuthenticationGssContinue bytes) = Authentication (AuthenticationGssContinue bytes)
view variants.AuthenticationSspi = Authentication AuthenticationSspi
view (variants.AuthenticationSasl bytes) = Authentication (AuthenticationSasl bytes)
view (variants.AuthenticationSaslContinue bytes) = Authentication (AuthenticationSaslContinue bytes)
view (variants.AuthenticationSaslFinal bytes) = Authentication (AuthenticationSaslFinal bytes)
view (variants.BackendKeyData key) = BackendKeyData key
view variants.BindComplete = BindComplete
view variants.CloseComplete = CloseComplete
view (variants.CommandComplete tag) = CommandComplete tag
view (variants.CopyData bytes) = CopyData bytes
view variants.CopyDone = CopyDone
view (variants.CopyInResponse copy) = CopyInResponse copy
view (variants.CopyOutResponse copy) = CopyOutResponse copy
view (variants.DataRow row) = DataRow row
view variants.EmptyQueryResponse = EmptyQueryResponse
view (variants.ErrorResponse bytes) = ErrorResponse bytes
view (variants.NegotiateProtocolVersion n) = NegotiateProtocolVersion n
view variants.NoData = NoData
view (variants.NoticeResponse bytes) = NoticeResponse bytes
view (variants.NotificationResponse n) = NotificationResponse n
view (variants.ParameterDescription row) = ParameterDescription row
view (variants.ParameterStatus setting) = ParameterStatus setting
view variants.ParseComplete = ParseComplete
view variants.PortalSuspended = PortalSuspended
view (variants.ReadyForQuery status) = ReadyForQuery status
view (variants.RowDescription row) = RowDescription row

-- a body's result
abbrev pub seen : {A : Type 0} → Result (code.Message.Message A) Error → Result Message Error
seen (Ok m) = Ok (view m)
seen (Err e) = Err e

-- the answer of `parse`
abbrev pub parsed : {A : Type 0} → Result (Option (code.Message.Message A)) Error → Result (Option Message) Error
parsed (Ok None) = Ok None
parsed (Ok (Some m)) = Ok (Some (view m))
parsed (Err e) = Err e
