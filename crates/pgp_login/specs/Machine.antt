-- How a client logs in by the ways that it admits, and what it sends: a machine of six states, whatever keeps the exchange.
-- PostgreSQL manual, "Message Flow": "Start-up"; "SASL Authentication".
use Rattle.std.specs.Prelude.{◌≡◌, ◌⊎◌, ℕ, Bool, true, false, List, Option, Some, None, codes}
use Rattle.pgp_auth.specs.Md5Text.{md5_answer}
use Rattle.pgp_auth.specs.ScramClient.{Begun, NotShown}
use Rattle.pgp_auth.specs.ScramRefusal.{AsksFewer, Refusal, Verifies}
use Rattle.pgp_frontend.specs.ClientMessage.{ClientMessage, PasswordMessage, SaslResponse}
pub use Rattle.pgp_message.specs.LogIn.{Asking, Nothing, Cleartext, Md5, Sasl, First, Final, Welcome, Other, Lists, asking}
use Rattle.pgp_login.specs.Exchange.{AddsReply, NotReplied, Replies, Seen, Unbegun, UnsentAs, initial, is_bound, mechanism}
use Rattle.pgp_login.specs.Fault.{Fault, NotAdmitted, NotOffered, Scram, TooFewRounds, Undue}
use Rattle.pgp_login.specs.declared.login.LoginPhase.{LoginPhase}
use Rattle.pgp_login.specs.declared.login.LoginPhase.TheVariants as phases

-- The ways that are admitted: SCRAM-SHA-256 by an exchange that begins with this, of at least so many rounds, MD5 by this user and password, this password in clear text, and none.
pub record Ways : Type 0 where
  pub scram : Option Begun
  pub md5 : Option (List ℕ × List ℕ)
  pub cleartext : Option (List ℕ)
  pub none : Bool
  pub least : ℕ

-- how far a log-in is
pub data State : Type 0 where
  AwaitsOffer : State
  AwaitsFirst : State
  -- the server has to show this signature
  AwaitsFinal : List ℕ → State
  AwaitsOk : State
  Done : State
  -- nothing is due any more
  Failed : State

-- The server offers to bind an exchange to the channel, as it does on an encrypted connection alone, and the client's isn't: neither is it known to be encrypted, nor is its
-- exchange bound. So encryption may have been taken away on the way.
abbrev pub IsStripped : Bool → Begun → List ℕ → Type 0
IsStripped encrypted b mechanisms = (encrypted ≡ false) × (is_bound b.binding ≡ false) × Lists (codes "SCRAM-SHA-256-PLUS") mechanisms

-- A server's message that asks this is answered by this message, if any, and leads from one state to the other.
pub data LogsOn (w : Ways) (encrypted : Bool) : Asking → Option ClientMessage → State → State → Type 0 where
  NothingAsked : {s : State} → LogsOn w encrypted Nothing None s s
  ByCleartext : (password : List ℕ) → w.cleartext ≡ Some password → LogsOn w encrypted Cleartext (Some (PasswordMessage password)) AwaitsOffer AwaitsOk
  ByMd5 : {salt : List ℕ} (who : List ℕ × List ℕ) → w.md5 ≡ Some who → LogsOn w encrypted (Md5 salt) (Some (PasswordMessage (md5_answer who.0 who.1 salt))) AwaitsOffer AwaitsOk
  ScramBegins : {mechanisms : List ℕ} (b : Begun) → w.scram ≡ Some b → Lists (mechanism b) mechanisms → (IsStripped encrypted b mechanisms → ⊥)
      → LogsOn w encrypted (Sasl mechanisms) (Some (initial b)) AwaitsOffer AwaitsFirst
  ScramGoesOn : {text : List ℕ} (b : Begun) (answer signature : List ℕ) → w.scram ≡ Some b → (AsksFewer w.least text → ⊥) → Replies b text answer signature
      → LogsOn w encrypted (First text) (Some (SaslResponse answer)) AwaitsFirst (AwaitsFinal signature)
  ScramEnds : {text : List ℕ} (signature : List ℕ) → Verifies signature text → LogsOn w encrypted (Final text) None (AwaitsFinal signature) AwaitsOk
  Welcomed : LogsOn w encrypted Welcome None AwaitsOk Done
  -- with no password asked for
  Trusted : w.none ≡ true → LogsOn w encrypted Welcome None AwaitsOffer Done

-- The log-in took what was asked: this reply was appended.
pub record LoggedOn (w : Ways) (encrypted : Bool) (asked : Asking) (old new : State) (out grown : List ℕ) : Type 0 where
  pub reply : Option ClientMessage
  pub logs : LogsOn w encrypted asked reply old new
  pub adds : AddsReply reply out grown

-- ---- why it doesn't

-- how far a log-in is, without the signature
abbrev pub phase_of : State → LoginPhase
phase_of AwaitsOffer = phases.AwaitsOffer
phase_of AwaitsFirst = phases.AwaitsFirst
phase_of (AwaitsFinal signature) = phases.AwaitsFinal
phase_of AwaitsOk = phases.AwaitsOk
phase_of Done = phases.Done
phase_of Failed = phases.Failed

abbrev pub is_first : LoginPhase → Bool
is_first phases.AwaitsOffer = true
is_first phase = false

-- Whether it is due. A way is asked for once, each text of an exchange has its turn, and the welcome comes at once or after the last answer.
abbrev pub is_due : LoginPhase → Asking → Bool
is_due phase Nothing = true
is_due phase Cleartext = is_first phase
is_due phase (Md5 salt) = is_first phase
is_due phase (Sasl mechanisms) = is_first phase
is_due phase Other = is_first phase
is_due phases.AwaitsFirst (First text) = true
is_due phases.AwaitsFinal (Final text) = true
is_due phases.AwaitsOffer Welcome = true
is_due phases.AwaitsOk Welcome = true
is_due phase asked = false

-- the exchange that is admitted, before it begins
abbrev pub admitted : Ways → Seen
admitted w = record { begun = w.scram; awaited = None }

-- The first cause, from the left. `lacks` says that memory was refused.
pub data Declines (lacks : Type 0) (w : Ways) (encrypted : Bool) : State → Asking → Fault → Type 0 where
  NotDue : {s : State} {asked : Asking} → is_due (phase_of s) asked ≡ false → Declines lacks w encrypted s asked Undue
  NoCleartext : w.cleartext ≡ None → Declines lacks w encrypted AwaitsOffer Cleartext NotAdmitted
  CleartextUnsent : {f : Fault} (password : List ℕ) → w.cleartext ≡ Some password → UnsentAs lacks (PasswordMessage password) f → Declines lacks w encrypted AwaitsOffer Cleartext f
  NoMd5 : {salt : List ℕ} → w.md5 ≡ None → Declines lacks w encrypted AwaitsOffer (Md5 salt) NotAdmitted
  Md5Unsent : {salt : List ℕ} {f : Fault} (who : List ℕ × List ℕ) → w.md5 ≡ Some who → UnsentAs lacks (PasswordMessage (md5_answer who.0 who.1 salt)) f → Declines lacks w encrypted AwaitsOffer (Md5 salt) f
  NoScram : {mechanisms : List ℕ} → w.scram ≡ None → Declines lacks w encrypted AwaitsOffer (Sasl mechanisms) NotAdmitted
  LacksMechanism : {mechanisms : List ℕ} (b : Begun) → w.scram ≡ Some b → (Lists (mechanism b) mechanisms → ⊥) → Declines lacks w encrypted AwaitsOffer (Sasl mechanisms) NotOffered
  MayBeStripped : {mechanisms : List ℕ} (b : Begun) → w.scram ≡ Some b → Lists (mechanism b) mechanisms → IsStripped encrypted b mechanisms → Declines lacks w encrypted AwaitsOffer (Sasl mechanisms) NotAdmitted
  NotBegun : {mechanisms : List ℕ} {f : Fault} (b : Begun) → w.scram ≡ Some b → Lists (mechanism b) mechanisms → (IsStripped encrypted b mechanisms → ⊥)
      → Unbegun lacks (admitted w) f ⊎ UnsentAs lacks (initial b) f → Declines lacks w encrypted AwaitsOffer (Sasl mechanisms) f
  FewRounds : {text : List ℕ} → AsksFewer w.least text → Declines lacks w encrypted AwaitsFirst (First text) TooFewRounds
  NoExchange : {text : List ℕ} → w.scram ≡ None → (AsksFewer w.least text → ⊥) → Declines lacks w encrypted AwaitsFirst (First text) NotAdmitted
  NotAnswered : {text : List ℕ} {f : Fault} → (AsksFewer w.least text → ⊥) → NotReplied lacks (admitted w) text f → Declines lacks w encrypted AwaitsFirst (First text) f
  NotSigned : {text : List ℕ} (signature : List ℕ) (r : Refusal) → NotShown lacks signature text r → Declines lacks w encrypted (AwaitsFinal signature) (Final text) (Scram r)
  NotTrusted : w.none ≡ false → Declines lacks w encrypted AwaitsOffer Welcome NotAdmitted
  IsOther : Declines lacks w encrypted AwaitsOffer Other NotAdmitted
