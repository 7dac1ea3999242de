-- What the messages of a server say.
-- PostgreSQL manual, "Message Formats".
use Rattle.std.specs.Prelude.{ℕ, List}
use Rattle.pgp_message.specs.Parts.{Notification, KeyData, Setting, CountedBytes, Negotiation, CopyFormats}

-- A request for authentication, or word that there is none to come.
pub data Request : Type 0 where
  AuthenticationOk : Request
  AuthenticationKerberosV5 : Request
  AuthenticationCleartextPassword : Request
  AuthenticationMd5Password : (salt : List ℕ) → Request
  AuthenticationScmCredential : Request
  AuthenticationGss : Request
  AuthenticationGssContinue : (bytes : List ℕ) → Request
  AuthenticationSspi : Request
  AuthenticationSasl : (bytes : List ℕ) → Request
  AuthenticationSaslContinue : (bytes : List ℕ) → Request
  AuthenticationSaslFinal : (bytes : List ℕ) → Request

-- A message.
pub data Message : Type 0 where
  ParseComplete : Message
  BindComplete : Message
  CloseComplete : Message
  NotificationResponse : Notification → Message
  CommandComplete : (tag : List ℕ) → Message
  DataRow : CountedBytes → Message
  ErrorResponse : (bytes : List ℕ) → Message
  CopyInResponse : CopyFormats → Message
  CopyOutResponse : CopyFormats → Message
  EmptyQueryResponse : Message
  BackendKeyData : KeyData → Message
  NegotiateProtocolVersion : Negotiation → Message
  NoticeResponse : (bytes : List ℕ) → Message
  Authentication : Request → Message
  ParameterStatus : Setting → Message
  RowDescription : CountedBytes → Message
  ReadyForQuery : (status : ℕ) → Message
  CopyDone : Message
  CopyData : (bytes : List ℕ) → Message
  NoData : Message
  PortalSuspended : Message
  ParameterDescription : CountedBytes → Message
