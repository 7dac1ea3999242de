-- Private: reading a body from the left, as the code does it. what it returns is the one result that `Body` allows.
use Rattle.std.specs.Prelude.{ℕ, ℤ, pos, negsuc, List, length, Result, Ok, Err, nat_lt, ◌==◌, if◌then◌else◌}
use Rattle.std.specs.Int.{w32, cast_signed}
use Rattle.pgp_base.specs.declared.error.Error.{Error}
use Rattle.pgp_base.specs.declared.error.Error.TheVariants.{UnknownTag, UnknownAuthentication, UnexpectedEof, NotDrained, InvalidCount}
use Rattle.pgp_base.specs.PartReading.{◌>>=◌, front_at, byte_at, uint16_at, oid_at, int32_at, string_at}
use Rattle.pgp_message.specs.Parts.{Notification, KeyData, Setting, CountedBytes, Negotiation, CopyFormats}
use Rattle.pgp_message.specs.BackendMessage.{Request, AuthenticationOk, AuthenticationKerberosV5, AuthenticationCleartextPassword, AuthenticationMd5Password, AuthenticationScmCredential, AuthenticationGss, AuthenticationGssContinue, AuthenticationSspi, AuthenticationSasl, AuthenticationSaslContinue, AuthenticationSaslFinal, Message, ParseComplete, BindComplete, CloseComplete, NotificationResponse, CommandComplete, DataRow, ErrorResponse, CopyInResponse, CopyOutResponse, EmptyQueryResponse, BackendKeyData, NegotiateProtocolVersion, NoticeResponse, Authentication, ParameterStatus, RowDescription, ReadyForQuery, CopyDone, CopyData, NoData, PortalSuspended, ParameterDescription}
pub use Rattle.pgp_base.specs.PartReading.{ended, made}

-- the families of bodies

unfoldable pub byte_of : List ℕ → Result ℕ Error
byte_of payload = do
  byte ← byte_at payload
  ended byte.0 byte.1

unfoldable pub string_of : List ℕ → Result (List ℕ) Error
string_of payload = do
  string ← string_at payload
  ended string.0 string.1

unfoldable pub setting_of : List ℕ → Result Setting Error
setting_of payload = do
  name ← string_at payload
  value ← string_at name.1
  ended (record { name = name.0; value = value.0 }) value.1

unfoldable pub notification_of : List ℕ → Result Notification Error
notification_of payload = do
  id ← int32_at payload
  channel ← string_at id.1
  message ← string_at channel.1
  ended (record { process_id = id.0; channel = channel.0; message = message.0 }) message.1

-- the key is what is left
abbrev pub key_of : ℤ → List ℕ → Result KeyData Error
key_of id key =
    if nat_lt (length key) 4 then Err UnexpectedEof else
    if nat_lt 256 (length key) then Err NotDrained else
    Ok (record { process_id = id; secret_key = key })

unfoldable pub key_data_of : List ℕ → Result KeyData Error
key_data_of payload = do
  id ← int32_at payload
  key_of id.0 id.1

abbrev pub count_of : ℤ → Result ℕ Error
count_of (pos count) = Ok count
count_of (negsuc below) = Err InvalidCount

unfoldable pub count_at : List ℕ → Result ℕ Error
count_at bytes = do
  count ← int32_at bytes
  count_of count.0

-- what is left are the options, unless their count is negative
abbrev pub options_of : ℤ → ℤ → List ℕ → Result Negotiation Error
options_of version (pos count) options = Ok (record { version = version; count = count; options = options })
options_of version (negsuc below) options = Err InvalidCount

unfoldable pub negotiation_of : List ℕ → Result Negotiation Error
negotiation_of payload = do
  version ← int32_at payload
  count ← int32_at version.1
  options_of version.0 count.0 count.1

unfoldable pub counted_of : List ℕ → Result CountedBytes Error
counted_of payload = do
  count ← uint16_at payload
  Ok (record { count = count.0; storage = count.1 })

unfoldable pub copy_of : List ℕ → Result CopyFormats Error
copy_of payload = do
  format ← byte_at payload
  count ← uint16_at format.1
  Ok (record { format = format.0; count = count.0; storage = count.1 })

unfoldable pub salt_of : List ℕ → Result (List ℕ) Error
salt_of payload = do
  salt ← front_at 4 (λ bytes. bytes) payload
  ended salt.0 salt.1

-- A message is bare where it keeps none of the bytes of its frame.

-- what follows the code of a bare request
unfoldable pub bare_request : ℕ → List ℕ → Result Request Error
bare_request code rest =
    if code == 0 then ended AuthenticationOk rest else
    if code == 2 then ended AuthenticationKerberosV5 rest else
    if code == 3 then ended AuthenticationCleartextPassword rest else
    if code == 5 then made AuthenticationMd5Password (salt_of rest) else
    if code == 6 then ended AuthenticationScmCredential rest else
    if code == 7 then ended AuthenticationGss rest else
    if code == 9 then ended AuthenticationSspi rest else
    Err (UnknownAuthentication (cast_signed w32 code))

-- what follows each code
unfoldable pub by_code : ℕ → List ℕ → Result Request Error
by_code code rest =
    if code == 8 then Ok (AuthenticationGssContinue rest) else
    if code == 10 then Ok (AuthenticationSasl rest) else
    if code == 11 then Ok (AuthenticationSaslContinue rest) else
    if code == 12 then Ok (AuthenticationSaslFinal rest) else
    bare_request code rest

unfoldable pub bare_request_of : List ℕ → Result Request Error
bare_request_of payload = do
  code ← oid_at payload
  bare_request code.0 code.1

unfoldable pub request_of : List ℕ → Result Request Error
request_of payload = do
  code ← oid_at payload
  by_code code.0 code.1

-- what follows the tag of a bare message
unfoldable pub bare_of : ℕ → List ℕ → Result Message Error
bare_of tag payload =
    if tag == 0x31 then ended ParseComplete payload else
    if tag == 0x32 then ended BindComplete payload else
    if tag == 0x33 then ended CloseComplete payload else
    if tag == 0x49 then ended EmptyQueryResponse payload else
    if tag == 0x52 then made Authentication (bare_request_of payload) else
    if tag == 0x5a then made ReadyForQuery (byte_of payload) else
    if tag == 0x63 then ended CopyDone payload else
    if tag == 0x6e then ended NoData payload else
    if tag == 0x73 then ended PortalSuspended payload else
    Err (UnknownTag tag)

-- what follows each tag
unfoldable pub body_of : ℕ → List ℕ → Result Message Error
body_of tag payload =
    if tag == 0x41 then made NotificationResponse (notification_of payload) else
    if tag == 0x43 then made CommandComplete (string_of payload) else
    if tag == 0x44 then made DataRow (counted_of payload) else
    if tag == 0x45 then Ok (ErrorResponse payload) else
    if tag == 0x47 then made CopyInResponse (copy_of payload) else
    if tag == 0x48 then made CopyOutResponse (copy_of payload) else
    if tag == 0x4b then made BackendKeyData (key_data_of payload) else
    if tag == 0x4e then Ok (NoticeResponse payload) else
    if tag == 0x52 then made Authentication (request_of payload) else
    if tag == 0x53 then made ParameterStatus (setting_of payload) else
    if tag == 0x54 then made RowDescription (counted_of payload) else
    if tag == 0x64 then Ok (CopyData payload) else
    if tag == 0x74 then made ParameterDescription (counted_of payload) else
    if tag == 0x76 then made NegotiateProtocolVersion (negotiation_of payload) else
    bare_of tag payload
