-- The messages of a client.
-- PostgreSQL manual, "Message Formats".
use Rattle.std.specs.Prelude.{◌≡◌, ◌⊎◌, ℕ, ℤ, List, Option, Some, None}

-- A text is its bytes without the 0 byte after it, a value its bytes, or none for a null.
pub data ClientMessage : Type 0 where
  -- after a tag
  Bind : (portal statement : List ℕ) (formats : List ℤ) (values : List (Option (List ℕ))) (result_formats : List ℤ) → ClientMessage
  Close : (variant : ℕ) (name : List ℕ) → ClientMessage
  CopyData : (bytes : List ℕ) → ClientMessage
  CopyDone : ClientMessage
  CopyFail : (message : List ℕ) → ClientMessage
  Describe : (variant : ℕ) (name : List ℕ) → ClientMessage
  Execute : (portal : List ℕ) (max_rows : ℤ) → ClientMessage
  Flush : ClientMessage
  FunctionCall : (function : ℕ) (formats : List ℤ) (arguments : List (Option (List ℕ))) (result_format : ℤ) → ClientMessage
  Parse : (name query : List ℕ) (param_types : List ℕ) → ClientMessage
  PasswordMessage : (password : List ℕ) → ClientMessage
  Query : (query : List ℕ) → ClientMessage
  -- a client may send no response with the mechanism's name
  SaslInitialResponse : (mechanism : List ℕ) (response : Option (List ℕ)) → ClientMessage
  SaslResponse : (response : List ℕ) → ClientMessage
  Sync : ClientMessage
  Terminate : ClientMessage
  -- the opening packets: that of a minor version of protocol 3, and requests
  Startup : (minor : ℕ) (parameters : List (List ℕ × List ℕ)) → ClientMessage
  CancelRequest : (process_id : ℤ) (secret_key : List ℕ) → ClientMessage
  SslRequest : ClientMessage
  GssEncRequest : ClientMessage

-- The three messages of tag `p` aren't distinguished by their bytes: the server knows which it
-- expects.
pub data PasswordKind : Type 0 where
  Password : PasswordKind
  Initial : PasswordKind
  Response : PasswordKind

-- What the writers write: a response stands with the mechanism's name, and the minor version is 0 or 2.
abbrev pub IsOurs : ClientMessage → Type 0
IsOurs (FunctionCall function formats arguments result_format) = ⊥
IsOurs (SaslInitialResponse mechanism None) = ⊥
IsOurs (Startup minor parameters) = (minor ≡ 0) ⊎ (minor ≡ 2)
IsOurs GssEncRequest = ⊥
IsOurs _ = Unit {0}
