-- The kind and the parts of a message, as C sees them.
use Rattle.std.specs.Prelude.{◌≡◌, ◌≤◌, ℕ, ◌+◌, pos, List, take, drop}
use Rattle.pgp_message.specs.BackendMessage.{Message, Authentication, NegotiateProtocolVersion, AuthenticationCleartextPassword, AuthenticationGss, AuthenticationGssContinue, AuthenticationKerberosV5, AuthenticationMd5Password, AuthenticationOk, AuthenticationSasl, AuthenticationSaslContinue, AuthenticationSaslFinal, AuthenticationScmCredential, AuthenticationSspi, BackendKeyData, BindComplete, CloseComplete, CommandComplete, CopyData, CopyDone, CopyInResponse, CopyOutResponse, DataRow, EmptyQueryResponse, ErrorResponse, NoData, NoticeResponse, NotificationResponse, ParameterDescription, ParameterStatus, ParseComplete, PortalSuspended, ReadyForQuery, RowDescription}
use Rattle.pgp_message.specs.Parts.{CountedBytes, CopyFormats}
use Rattle.for_c.specs.declared.front.PgpPart.{PgpPart}
use Rattle.for_c.specs.declared.front.PgpParts.{PgpParts}

-- the number of a message's kind
abbrev pub kind_of : Message → ℕ
kind_of (Authentication AuthenticationCleartextPassword) = 1
kind_of (Authentication AuthenticationGss) = 2
kind_of (Authentication (AuthenticationGssContinue bytes)) = 3
kind_of (Authentication AuthenticationKerberosV5) = 4
kind_of (Authentication (AuthenticationMd5Password salt)) = 5
kind_of (Authentication AuthenticationOk) = 6
kind_of (Authentication (AuthenticationSasl bytes)) = 7
kind_of (Authentication (AuthenticationSaslContinue bytes)) = 8
kind_of (Authentication (AuthenticationSaslFinal bytes)) = 9
kind_of (Authentication AuthenticationScmCredential) = 10
kind_of (Authentication AuthenticationSspi) = 11
kind_of (BackendKeyData key) = 12
kind_of BindComplete = 13
kind_of CloseComplete = 14
kind_of (CommandComplete tag) = 15
kind_of (CopyData bytes) = 16
kind_of CopyDone = 17
kind_of (CopyInResponse copy) = 18
kind_of (CopyOutResponse copy) = 19
kind_of (DataRow row) = 20
kind_of EmptyQueryResponse = 21
kind_of (ErrorResponse bytes) = 22
kind_of NoData = 23
kind_of (NoticeResponse bytes) = 24
kind_of (NotificationResponse n) = 25
kind_of (ParameterDescription row) = 26
kind_of (ParameterStatus setting) = 27
kind_of ParseComplete = 28
kind_of PortalSuspended = 29
kind_of (ReadyForQuery status) = 30
kind_of (RowDescription row) = 31
kind_of (NegotiateProtocolVersion n) = 32

abbrev pub part : ℕ → ℕ → PgpPart
part at len = record { at = at; len = len }

abbrev pub no_parts : PgpParts
no_parts = record { first = part 0 0; second = part 0 0; count = 0; number = pos 0; byte = 0 }

-- what stands at a part's place
abbrev pub stands : List ℕ → PgpPart → List ℕ
stands bytes p = take p.len (drop p.at bytes)

-- all of it lies before this place
abbrev pub IsInside : ℕ → PgpPart → Type 0
IsInside size p = p.at + p.len ≤ size

-- one part, and nothing else
abbrev pub One : List ℕ → PgpParts → List ℕ → Type 0
One bytes p what = (p ≡ record no_parts { first = p.first }) × (stands bytes p.first ≡ what)

-- a count and what stands after it, and nothing else
abbrev pub Counts : List ℕ → PgpParts → CountedBytes → Type 0
Counts bytes p c = (p ≡ record no_parts { first = p.first; count = c.count }) × (stands bytes p.first ≡ c.storage)

abbrev pub Copies : List ℕ → PgpParts → CopyFormats → Type 0
Copies bytes p c = (p ≡ record no_parts { first = p.first; count = c.count; byte = c.format }) × (stands bytes p.first ≡ c.storage)

-- The parts of the message stand at their places, its numbers are reported, and all else is 0.
abbrev pub Shows : List ℕ → Message → PgpParts → Type 0
Shows bytes (CommandComplete tag) p = One bytes p tag
Shows bytes (ErrorResponse b) p = One bytes p b
Shows bytes (NoticeResponse b) p = One bytes p b
Shows bytes (CopyData b) p = One bytes p b
Shows bytes (Authentication (AuthenticationGssContinue b)) p = One bytes p b
Shows bytes (Authentication (AuthenticationSasl b)) p = One bytes p b
Shows bytes (Authentication (AuthenticationSaslContinue b)) p = One bytes p b
Shows bytes (Authentication (AuthenticationSaslFinal b)) p = One bytes p b
Shows bytes (Authentication (AuthenticationMd5Password salt)) p = One bytes p salt
Shows bytes (DataRow row) p = Counts bytes p row
Shows bytes (RowDescription row) p = Counts bytes p row
Shows bytes (ParameterDescription row) p = Counts bytes p row
Shows bytes (CopyInResponse copy) p = Copies bytes p copy
Shows bytes (CopyOutResponse copy) p = Copies bytes p copy
Shows bytes (BackendKeyData key) p = (p ≡ record no_parts { first = p.first; number = key.process_id }) × (stands bytes p.first ≡ key.secret_key)
Shows bytes (NegotiateProtocolVersion n) p = (p ≡ record no_parts { first = p.first; count = n.count; number = n.version }) × (stands bytes p.first ≡ n.options)
Shows bytes (ReadyForQuery status) p = p ≡ record no_parts { byte = status }
Shows bytes (ParameterStatus setting) p = (p ≡ record no_parts { first = p.first; second = p.second }) × (stands bytes p.first ≡ setting.name) × (stands bytes p.second ≡ setting.value)
Shows bytes (NotificationResponse n) p = (p ≡ record no_parts { first = p.first; second = p.second; number = n.process_id }) × (stands bytes p.first ≡ n.channel) × (stands bytes p.second ≡ n.message)
Shows bytes m p = p ≡ no_parts
