-- How each message of a server is spelled, and what a tag and a payload mean.
-- PostgreSQL manual, "Message Formats"; keys that haven't 4 bytes, and the answer about versions: this project's profile of protocol 3.2.
use Rattle.std.specs.Prelude.{FitsSigned, ◌≡◌, ◌≢◌, ℕ, ℤ, pos, negsuc, ◌<◌, ◌≤◌, ◌^◌, List, [], ◌∷◌, ◌++◌, length, Result, Ok, Err}
use Rattle.std.specs.Int.{w32}
use Rattle.pgp_base.specs.declared.error.Error.{Error}
use Rattle.pgp_base.specs.declared.error.Error.TheVariants as errors
use Rattle.pgp_base.specs.Wire.{int32, uint16, text, HasNoZero}
use Rattle.pgp_message.specs.Parts.{CountedBytes, CopyFormats}
pub use Rattle.pgp_message.specs.ServerMessage.{Request, AuthenticationOk, AuthenticationKerberosV5, AuthenticationCleartextPassword}
pub use Rattle.pgp_message.specs.ServerMessage.{AuthenticationMd5Password, AuthenticationScmCredential, AuthenticationGss, AuthenticationGssContinue}
pub use Rattle.pgp_message.specs.ServerMessage.{AuthenticationSspi, AuthenticationSasl, AuthenticationSaslContinue, AuthenticationSaslFinal, Authentication}
pub use Rattle.pgp_message.specs.ServerMessage.{Message, ParseComplete, BindComplete, CloseComplete, NotificationResponse, CommandComplete, DataRow}
pub use Rattle.pgp_message.specs.ServerMessage.{ErrorResponse, CopyInResponse, CopyOutResponse, EmptyQueryResponse, BackendKeyData, NegotiateProtocolVersion}
pub use Rattle.pgp_message.specs.ServerMessage.{NoticeResponse, ParameterStatus, RowDescription, ReadyForQuery, CopyDone, CopyData, NoData, PortalSuspended}
pub use Rattle.pgp_message.specs.ServerMessage.{ParameterDescription}

-- the code of a request
abbrev pub code_of : Request → ℕ
code_of AuthenticationOk = 0
code_of AuthenticationKerberosV5 = 2
code_of AuthenticationCleartextPassword = 3
code_of (AuthenticationMd5Password salt) = 5
code_of AuthenticationScmCredential = 6
code_of AuthenticationGss = 7
code_of (AuthenticationGssContinue bytes) = 8
code_of AuthenticationSspi = 9
code_of (AuthenticationSasl bytes) = 10
code_of (AuthenticationSaslContinue bytes) = 11
code_of (AuthenticationSaslFinal bytes) = 12

-- what stands after the code
abbrev pub details_of : Request → List ℕ
details_of AuthenticationOk = []
details_of AuthenticationKerberosV5 = []
details_of AuthenticationCleartextPassword = []
details_of (AuthenticationMd5Password salt) = salt
details_of AuthenticationScmCredential = []
details_of AuthenticationGss = []
details_of (AuthenticationGssContinue bytes) = bytes
details_of AuthenticationSspi = []
details_of (AuthenticationSasl bytes) = bytes
details_of (AuthenticationSaslContinue bytes) = bytes
details_of (AuthenticationSaslFinal bytes) = bytes

-- the tag under which a message comes: the letter's code
abbrev pub tag_of : Message → ℕ
tag_of ParseComplete = 0x31  -- 1
tag_of BindComplete = 0x32  -- 2
tag_of CloseComplete = 0x33  -- 3
tag_of (NotificationResponse n) = 0x41  -- A
tag_of (CommandComplete tag) = 0x43  -- C
tag_of (DataRow row) = 0x44  -- D
tag_of (ErrorResponse bytes) = 0x45  -- E
tag_of (CopyInResponse copy) = 0x47  -- G
tag_of (CopyOutResponse copy) = 0x48  -- H
tag_of EmptyQueryResponse = 0x49  -- I
tag_of (BackendKeyData key) = 0x4b  -- K
tag_of (NoticeResponse bytes) = 0x4e  -- N
tag_of (Authentication request) = 0x52  -- R
tag_of (ParameterStatus setting) = 0x53  -- S
tag_of (RowDescription row) = 0x54  -- T
tag_of (ReadyForQuery status) = 0x5a  -- Z
tag_of CopyDone = 0x63  -- c
tag_of (CopyData bytes) = 0x64  -- d
tag_of NoData = 0x6e  -- n
tag_of PortalSuspended = 0x73  -- s
tag_of (ParameterDescription row) = 0x74  -- t
tag_of (NegotiateProtocolVersion n) = 0x76  -- v

abbrev pub counted_bytes : CountedBytes → List ℕ
counted_bytes c = uint16 c.count ++ c.storage

abbrev pub copy_formats : CopyFormats → List ℕ
copy_formats c = c.format ∷ uint16 c.count ++ c.storage

-- the parts of a message, joined
abbrev pub payload_of : Message → List ℕ
payload_of ParseComplete = []
payload_of BindComplete = []
payload_of CloseComplete = []
payload_of (NotificationResponse n) = int32 n.process_id ++ text n.channel ++ text n.message
payload_of (CommandComplete tag) = text tag
payload_of (DataRow row) = counted_bytes row
payload_of (ErrorResponse bytes) = bytes
payload_of (CopyInResponse copy) = copy_formats copy
payload_of (CopyOutResponse copy) = copy_formats copy
payload_of EmptyQueryResponse = []
payload_of (BackendKeyData key) = int32 key.process_id ++ key.secret_key
payload_of (NegotiateProtocolVersion n) = int32 n.version ++ int32 (pos n.count) ++ n.options
payload_of (NoticeResponse bytes) = bytes
payload_of (Authentication request) = int32 (pos (code_of request)) ++ details_of request
payload_of (ParameterStatus setting) = text setting.name ++ text setting.value
payload_of (RowDescription row) = counted_bytes row
payload_of (ReadyForQuery status) = status ∷ []
payload_of CopyDone = []
payload_of (CopyData bytes) = bytes
payload_of NoData = []
payload_of PortalSuspended = []
payload_of (ParameterDescription row) = counted_bytes row

-- the parts of a message have a spelling
abbrev pub Fits : Message → Type 0
Fits (NotificationResponse n) = FitsSigned w32 n.process_id × HasNoZero n.channel × HasNoZero n.message
Fits (CommandComplete tag) = HasNoZero tag
Fits (DataRow row) = row.count < 2 ^ 16
Fits (CopyInResponse copy) = copy.count < 2 ^ 16
Fits (CopyOutResponse copy) = copy.count < 2 ^ 16
Fits (BackendKeyData key) = FitsSigned w32 key.process_id × (4 ≤ length key.secret_key) × (length key.secret_key ≤ 256)
Fits (NegotiateProtocolVersion n) = FitsSigned w32 n.version × FitsSigned w32 (pos n.count)
Fits (Authentication (AuthenticationMd5Password salt)) = length salt ≡ 4
Fits (ParameterStatus setting) = HasNoZero setting.name × HasNoZero setting.value
Fits (RowDescription row) = row.count < 2 ^ 16
Fits (ParameterDescription row) = row.count < 2 ^ 16
Fits m = Unit {0}

-- the payload is the parts of this message, and these bytes after them
pub record Spells (tag : ℕ) (payload : List ℕ) (m : Message) (more : List ℕ) : Type 0 where
  pub tagged : tag_of m ≡ tag
  pub fits : Fits m
  pub parts : payload ≡ payload_of m ++ more

-- the payload of a request begins with a code, and no request has that code
pub record IsUnknownCode (tag : ℕ) (payload : List ℕ) (code : ℤ) : Type 0 where
  pub tagged : tag ≡ 0x52
  pub fits : FitsSigned w32 code
  pub more : List ℕ
  pub parts : payload ≡ int32 code ++ more
  pub unknown : (request : Request) → pos (code_of request) ≢ code

-- the payload of an answer about versions begins with a version and a negative count
pub record HasNegativeCount (tag : ℕ) (payload : List ℕ) : Type 0 where
  pub tagged : tag ≡ 0x76
  pub version : ℤ
  pub below : ℕ
  pub fits : FitsSigned w32 version × FitsSigned w32 (negsuc below)
  pub more : List ℕ
  pub parts : payload ≡ int32 version ++ int32 (negsuc below) ++ more

-- The one result of a body: a message, or why there is none.
abbrev pub Body : ℕ → List ℕ → Result Message Error → Type 0
-- the parts of this message, and nothing else
Body tag payload (Ok m) = Spells tag payload m []
-- no message has the tag
Body tag payload (Err (errors.UnknownTag unknown)) = (unknown ≡ tag) × ((m : Message) → tag_of m ≢ tag)
Body tag payload (Err (errors.UnknownAuthentication code)) = IsUnknownCode tag payload code
Body tag payload (Err errors.InvalidCount) = HasNegativeCount tag payload
-- a message has the tag; the payload begins with the parts of none, nor with an unknown code or a negative count
Body tag payload (Err errors.UnexpectedEof) =
    ((m : Message) × (tag_of m ≡ tag))
    × ((m : Message) (more : List ℕ) → Spells tag payload m more → ⊥)
    × ((code : ℤ) → IsUnknownCode tag payload code → ⊥)
    × (HasNegativeCount tag payload → ⊥)
-- the payload begins with the parts of a message, and is not the parts of any
Body tag payload (Err errors.NotDrained) =
    ((m : Message) × (more : List ℕ) × Spells tag payload m more)
    × ((m : Message) → Spells tag payload m [] → ⊥)
Body tag payload (Err e) = ⊥
