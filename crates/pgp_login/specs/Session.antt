-- Whole log-ins, and by which way a client is let in.
-- PostgreSQL manual, "SASL Authentication"; RFC 5802, RFC 7677. The ways that are admitted are those of libpq's `require_auth`.
use Rattle.std.specs.Prelude.{◌≡◌, ◌⊎◌, ℕ, Bool, true, List, [], ◌∷◌, ◌++◌, Option, Some, option_to_list}
use Rattle.std.specs.List.{AllByRecursion}
use Rattle.pgp_auth.specs.Md5Text.{md5_answer}
use Rattle.pgp_auth.specs.ScramClient.{Begun}
use Rattle.pgp_auth.specs.ScramRefusal.{Verifies}
use Rattle.pgp_frontend.specs.ClientMessage.{ClientMessage, PasswordMessage, SaslInitialResponse, SaslResponse}
use Rattle.pgp_message.specs.BackendMessage.{Message, Authentication, AuthenticationOk, AuthenticationCleartextPassword, AuthenticationMd5Password, AuthenticationSasl, AuthenticationSaslContinue, AuthenticationSaslFinal}
use Rattle.pgp_login.specs.Exchange.{AddsReply, Replies, initial, mechanism}
use Rattle.pgp_login.specs.Login.{Kept, Stands}
use Rattle.pgp_login.specs.Machine.{Lists, LogsOn, State, Ways, asking}
use Rattle.pgp_login.specs.Machine as machine

-- A client that admits these ways heard these messages, and answered by those; this is how far it is then. What else was sent is none of the log-in's.
pub data Plays (w : Ways) : List ClientMessage → List Message → State → Type 0 where
  Begins : Plays w [] [] machine.AwaitsOffer
  Hears : {gave : List ClientMessage} {reply : Option ClientMessage} {observed : List Message} {s after : State} (encrypted : Bool) (m : Message)
      → LogsOn w encrypted (asking m) reply s after → Plays w gave observed s → Plays w (gave ++ option_to_list reply) (observed ++ m ∷ []) after

-- the first messages came among the second in this order, others before, between and after them
pub data ReceivedAmong : List Message → List Message → Type 0 where
  NoneWanted : {received : List Message} → ReceivedAmong [] received
  OneReceived : {wanted received : List Message} (m : Message) → ReceivedAmong wanted received → ReceivedAmong (wanted ++ (m ∷ [])) (received ++ (m ∷ []))
  OtherReceived : {wanted received : List Message} (m : Message) → ReceivedAmong wanted received → ReceivedAmong wanted (received ++ (m ∷ []))

-- the messages by which a server asks for a password in clear text, for its hash with a salt, and by which it lets a client in by SCRAM-SHA-256
abbrev pub asks_password : Message
asks_password = Authentication AuthenticationCleartextPassword

abbrev pub asks_hash : List ℕ → Message
asks_hash salt = Authentication (AuthenticationMd5Password salt)

abbrev pub offer : List ℕ → Message
offer mechanisms = Authentication (AuthenticationSasl mechanisms)

abbrev pub challenge : List ℕ → Message
challenge text = Authentication (AuthenticationSaslContinue text)

abbrev pub signature : List ℕ → Message
signature text = Authentication (AuthenticationSaslFinal text)

abbrev pub admission : Message
admission = Authentication AuthenticationOk

-- The server showed that it holds the verifier of the exchange's password: its offer, its first text, its final text and its welcome came in this order, this is the answer to the first,
-- and the final text shows the signature of a server that takes that answer.
pub record Signed (b : Begun) (proof : List ℕ) (observed : List Message) : Type 0 where
  pub mechanisms : List ℕ
  pub first : List ℕ
  pub final : List ℕ
  pub shown : List ℕ
  pub offers : Lists (mechanism b) mechanisms
  pub received : ReceivedAmong (offer mechanisms ∷ challenge first ∷ signature final ∷ admission ∷ []) observed
  pub replies : Replies b first proof shown
  pub verifies : Verifies shown final

-- Why a client is logged in that wrote these messages of a log-in and no others: by a way that is admitted, with its one answer, if it has one, to the server that asked for it, and then the
-- server's welcome; and where an exchange of SCRAM-SHA-256 was begun, by that alone, and only where the server's signature was shown.
pub data Admitted (w : Ways) (observed : List Message) : List ClientMessage → Type 0 where
  ByNone : w.none ≡ true → ReceivedAmong (admission ∷ []) observed → Admitted w observed []
  ByPassword : (password : List ℕ) → w.cleartext ≡ Some password → ReceivedAmong (asks_password ∷ admission ∷ []) observed → Admitted w observed (PasswordMessage password ∷ [])
  ByHash : (who : List ℕ × List ℕ) (salt : List ℕ) → w.md5 ≡ Some who → ReceivedAmong (asks_hash salt ∷ admission ∷ []) observed → Admitted w observed (PasswordMessage (md5_answer who.0 who.1 salt) ∷ [])
  BySignature : (b : Begun) (proof : List ℕ) → w.scram ≡ Some b → Signed b proof observed → Admitted w observed (initial b ∷ SaslResponse proof ∷ [])

-- What a message of a log-in gives away: the password in clear text, its hash, or what the exchange says, at first or after a text of the server; each where that way is admitted.
abbrev pub IsAllowed : Ways → ClientMessage → Type 0
IsAllowed w (PasswordMessage text) = (w.cleartext ≡ Some text) ⊎ ((who : List ℕ × List ℕ) × (w.md5 ≡ Some who) × (salt : List ℕ) × (text ≡ md5_answer who.0 who.1 salt))
IsAllowed w (SaslInitialResponse mechanism response) = (b : Begun) × (w.scram ≡ Some b) × (SaslInitialResponse mechanism response ≡ initial b)
IsAllowed w (SaslResponse text) = (b : Begun) × (w.scram ≡ Some b) × (first : List ℕ) × (shown : List ℕ) × Replies b first text shown
IsAllowed w m = ⊥

-- ---- what is known of the code's log-in

-- It came to where it stands by these messages.
pub record Known (w : Ways) (encrypted : Bool) (gave : List ClientMessage) (observed : List Message) (l : Kept) : Type 0 where
  pub state : State
  pub plays : Plays w gave observed state
  pub stands : Stands w encrypted state l

-- A message more was heard, this reply to it was appended, and the same is known of what the log-in is then.
pub record Heard (w : Ways) (encrypted : Bool) (gave : List ClientMessage) (observed : List Message) (m : Message) (l : Kept) (out grown : List ℕ) : Type 0 where
  pub reply : Option ClientMessage
  pub adds : AddsReply reply out grown
  pub known : Known w encrypted (gave ++ option_to_list reply) (observed ++ m ∷ []) l

-- the same of a state
pub record Played (w : Ways) (gave : List ClientMessage) (observed : List Message) (m : Message) (s : State) (out grown : List ℕ) : Type 0 where
  pub reply : Option ClientMessage
  pub adds : AddsReply reply out grown
  pub plays : Plays w (gave ++ option_to_list reply) (observed ++ m ∷ []) s
