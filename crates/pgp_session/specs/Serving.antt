-- A server's core: what a client's message comes to in each phase, what is answered, and who is let in.
-- PostgreSQL manual, "Message Flow": "Start-up", "Canceling Requests in Progress", "Termination", "SSL Session Encryption", "GSSAPI Session
-- Encryption"; "SASL Authentication"; "Error and Notice Message Fields"; appendix "PostgreSQL Error Codes".
use Rattle.std.specs.Prelude.{◌≡◌, ◌≢◌, ◌⊎◌, ℕ, false, List, [], ◌∷◌, ◌++◌, Option, Some, None, Result, Ok, Err, length, codes}
use Rattle.pgp_base.specs.Cause.{Cause, Wants, WantsMemory, Writes}
use Rattle.pgp_base.specs.Held.{Held, ◌⊕◌, Leaves}
use Rattle.pgp_base.specs.declared.error.Error.{Error}
use Rattle.pgp_auth.specs.Md5Text.{AnswersStored}
use Rattle.pgp_auth.specs.Prepared.{prepared}
use Rattle.pgp_auth.specs.ScramServerView.{verifier_of}
use Rattle.pgp_auth.specs.ScramServing.{Server, Challenges, FirstRefused, Admits, FinalRefused}
use Rattle.pgp_auth.specs.Verifier.{verifier}
use Rattle.pgp_auth.specs.declared.scram.held.StoredVerifier.{StoredVerifier}
use Rattle.pgp_auth.specs.declared.scram.server_error.ServerError.{ServerError}
use Rattle.pgp_frontend.specs.ClientMessage.{ClientMessage, PasswordMessage, SaslInitialResponse, SaslResponse, Terminate, Startup, CancelRequest, SslRequest, GssEncRequest, PasswordKind, Password, Initial, Response}
use Rattle.pgp_message.specs.BackendMessage.{Message, Authentication, AuthenticationSasl, ErrorResponse}
use Rattle.pgp_message.specs.Items.{ErrorPart}
use Rattle.pgp_message_write.specs.Reply.{bytes_of, cause, fields_of, names_of}
use Rattle.pgp_session.specs.declared.serving.Denial.{Denial}
use Rattle.pgp_session.specs.declared.serving.Denial.TheVariants.{WrongPassword, Violation, NotAllowed}
use Rattle.pgp_session.specs.declared.serving.Method.{Method}
use Rattle.pgp_session.specs.declared.serving.Method.TheVariants as methods
use Rattle.pgp_session.specs.declared.serving.Serving.{Serving}
use Rattle.pgp_session.specs.declared.serving.ServingEvent.{ServingEvent}
use Rattle.pgp_session.specs.declared.serving.ServingEvent.TheVariants as events
use Rattle.pgp_session.specs.declared.serving.ServingPhase.{ServingPhase}
use Rattle.pgp_session.specs.declared.serving.ServingPhase.TheVariants.{Opening, Named, AwaitsPassword, AwaitsFirst, AwaitsFinal, Open, Over}
use Rattle.pgp_session.specs.declared.serving_due.Due.{Due as CodeDue}
use Rattle.pgp_session.specs.declared.serving_due.Due.TheVariants as dues
use Rattle.pgp_session.specs.declared.serving_outcome.Outcome.{Outcome as CodeOutcome}
use Rattle.pgp_session.specs.declared.serving_outcome.Outcome.TheVariants as outcomes
pub use Rattle.pgp_login.specs.Session.{admission, challenge, signature}

-- a password that no mapping changes
abbrev pub unmapped : List ℕ → List ℕ
unmapped password = prepared (λ _. None) password

-- which message of tag `p` is expected
abbrev pub kind_in : ServingPhase → PasswordKind
kind_in AwaitsFirst = Initial
kind_in AwaitsFinal = Response
kind_in phase = Password

-- ---- what a startup packet names

-- The value that stands after this name, or that none does; where it stands twice, the last.
pub data NamesLast : List ℕ → List (List ℕ × List ℕ) → Option (List ℕ) → Type 0 where
  NoneStands : {key : List ℕ} → NamesLast key [] None
  OneStands : {key value : List ℕ} {before : List (List ℕ × List ℕ)} {last : Option (List ℕ)}
      → NamesLast key before last → NamesLast key (before ++ ((key, value) ∷ [])) (Some value)
  OtherStands : {key : List ℕ} {before : List (List ℕ × List ℕ)} {last : Option (List ℕ)} (name value : List ℕ)
      → name ≢ key → NamesLast key before last → NamesLast key (before ++ ((name, value) ∷ [])) last

-- what is known with one more name: its value, if it is the one, or what was known before
abbrev pub IsNewer : List ℕ → List ℕ → List ℕ → Option (List ℕ) → Option (List ℕ) → Type 0
IsNewer key name value before after = ((name ≡ key) × (after ≡ Some value)) ⊎ ((name ≢ key) × (after ≡ before))

-- ---- what a message is in a phase

pub data Due : Type 0 where
  -- the session is over: nothing is read any more
  Idle : Due
  Encrypts : Due
  Cancels : Due
  Starts : Due
  Text : (text : List ℕ) → Due
  First : (mechanism text : List ℕ) → Due
  Final : (text : List ℕ) → Due
  Asks : Due
  Ends : Due
  Misplaced : Due

abbrev pub at_opening : ClientMessage → Due
at_opening SslRequest = Encrypts
at_opening GssEncRequest = Encrypts
at_opening (CancelRequest process_id secret_key) = Cancels
at_opening (Startup minor parameters) = Starts
at_opening m = Misplaced

abbrev pub at_password : ClientMessage → Due
at_password (PasswordMessage text) = Text text
at_password m = Misplaced

abbrev pub at_first : ClientMessage → Due
at_first (SaslInitialResponse mechanism (Some text)) = First mechanism text
at_first m = Misplaced

abbrev pub at_final : ClientMessage → Due
at_final (SaslResponse text) = Final text
at_final m = Misplaced

-- after the log-in: all but the messages of one, and the opening packets
abbrev pub at_open : ClientMessage → Due
at_open Terminate = Ends
at_open (PasswordMessage text) = Misplaced
at_open (SaslInitialResponse mechanism response) = Misplaced
at_open (SaslResponse text) = Misplaced
at_open (Startup minor parameters) = Misplaced
at_open (CancelRequest process_id secret_key) = Misplaced
at_open SslRequest = Misplaced
at_open GssEncRequest = Misplaced
at_open m = Asks

abbrev pub due : ServingPhase → ClientMessage → Due
due Opening m = at_opening m
due Named m = Misplaced
due AwaitsPassword m = at_password m
due AwaitsFirst m = at_first m
due AwaitsFinal m = at_final m
due Open m = at_open m
due Over m = Idle

-- ---- what the server decides

pub data Outcome : Type 0 where
  Ignored : Outcome
  Unencrypted : Outcome
  Cancelled : Outcome
  Begun : Outcome
  Requested : Outcome
  Ended : Outcome
  Denied : Denial → Outcome
  -- the text that was expected came
  Welcome : Outcome
  -- the server's first text of a SCRAM exchange
  Challenge : (text : List ℕ) → Outcome
  -- the proof came; the server's final text
  Signed : (text : List ℕ) → Outcome

-- the password is that of a verifier that isn't made up
abbrev pub IsPasswordOf : {A : Type 0} → StoredVerifier A → List ℕ → Type 0
IsPasswordOf stored text = (stored.is_mock ≡ false) × (verifier_of stored ≡ verifier (unmapped text) stored.salt.items stored.count)

-- the text is the right one where a password message is awaited
abbrev pub Proves : {A : Type 0} → Method A → List ℕ → Type 0
Proves (methods.Password stored) text = IsPasswordOf stored text
Proves (methods.Md5 salt stored) text = AnswersStored stored.items salt text
Proves method text = ⊥

-- the exchange goes on: the client's first text is one, and this answers it
abbrev pub IsChallenged : {A : Type 0} → Method A → List ℕ → Method A → List ℕ → Type 0
IsChallenged (methods.Exchange old) text (methods.Exchange new) answer = Challenges old text new answer
IsChallenged old text new answer = ⊥

-- the client's final text shows the proof, and this is the server's
abbrev pub IsAdmitted : {A : Type 0} → Method A → List ℕ → Method A → List ℕ → Type 0
IsAdmitted (methods.Exchange old) text (methods.Exchange new) answer = Admits old text new answer
IsAdmitted old text new answer = ⊥

-- No client's first text, whatever memory there is, which ends the exchange; or none is under way.
abbrev pub IsNoFirst : {A : Type 0} → Method A → List ℕ → Method A → Type 0
IsNoFirst (methods.Exchange old) text (methods.Exchange new) = (e : ServerError) × FirstRefused ⊥ old text e new
IsNoFirst (methods.Exchange old) text new = ⊥
IsNoFirst old text new = new ≡ old

-- the client's first text is answered, or is none
abbrev pub GoesOn : {A : Type 0} → Method A → List ℕ → Option (List ℕ) → Method A → Type 0
GoesOn old text (Some answer) new = IsChallenged old text new answer
GoesOn old text None new = IsNoFirst old text new

-- no proof, which ends the exchange; or none is under way
abbrev pub IsNoFinal : {A : Type 0} → Method A → List ℕ → Method A → Type 0
IsNoFinal (methods.Exchange old) text (methods.Exchange new) = (e : ServerError) × FinalRefused old text e new
IsNoFinal (methods.Exchange old) text new = ⊥
IsNoFinal old text new = new ≡ old

abbrev pub scram : List ℕ
scram = codes "SCRAM-SHA-256"

-- What is decided on what is due. Only a text that proves it, or a final text that shows the proof, lets a client in.
abbrev pub Comes : {A : Type 0} → Due → Method A → Outcome → Method A → Type 0
Comes Idle old Ignored new = new ≡ old
Comes Encrypts old Unencrypted new = new ≡ old
Comes Cancels old Cancelled new = new ≡ old
Comes Starts old Begun new = new ≡ old
Comes Asks old Requested new = new ≡ old
Comes Ends old Ended new = new ≡ old
Comes Misplaced old (Denied Violation) new = new ≡ old
Comes (Text text) old Welcome new = Proves old text × (new ≡ old)
Comes (Text text) old (Denied WrongPassword) new = (Proves old text → ⊥) × (new ≡ old)
Comes (First mechanism text) old (Challenge answer) new = (mechanism ≡ scram) × IsChallenged old text new answer
Comes (First mechanism text) old (Denied Violation) new = ((mechanism ≢ scram) × (new ≡ old)) ⊎ IsNoFirst old text new
Comes (Final text) old (Signed answer) new = IsAdmitted old text new answer
Comes (Final text) old (Denied WrongPassword) new = IsNoFinal old text new
Comes d old o new = ⊥

abbrev pub phase_after : Outcome → ServingPhase
phase_after Ignored = Over
phase_after Unencrypted = Opening
phase_after Cancelled = Over
phase_after Begun = Named
phase_after Requested = Open
phase_after Ended = Over
phase_after (Denied why) = Over
phase_after Welcome = Open
phase_after (Challenge text) = AwaitsFinal
phase_after (Signed text) = Open

abbrev pub event_of : Outcome → ServingEvent
event_of Ignored = events.Ignored
event_of Unencrypted = events.Unencrypted
event_of Cancelled = events.Cancelled
event_of Begun = events.Named
event_of Requested = events.Requested
event_of Ended = events.Ended
event_of (Denied why) = events.Refused
event_of Welcome = events.LoggedIn
event_of (Challenge text) = events.Challenged
event_of (Signed text) = events.LoggedIn

-- ---- what is sent

abbrev pub sqlstate : Denial → List ℕ
sqlstate WrongPassword = codes "28P01"
sqlstate Violation = codes "08P01"
sqlstate NotAllowed = codes "28000"

abbrev pub reported : Denial → List ℕ
reported WrongPassword = codes "password authentication failed"
reported Violation = codes "protocol violation"
reported NotAllowed = codes "invalid authorization specification"

-- a field of an error, by its letter
abbrev pub field : ℕ → List ℕ → ErrorPart
field code value = record { code = code; value = value }

-- severity, the same not translated, SQLSTATE and message
abbrev pub fields : Denial → List ErrorPart
fields why = field 83 (codes "FATAL") ∷ field 86 (codes "FATAL") ∷ field 67 (sqlstate why) ∷ field 77 (reported why) ∷ []

abbrev pub error_of : Denial → Message
error_of why = ErrorResponse (fields_of (fields why))

abbrev pub scram_offer : Message
scram_offer = Authentication (AuthenticationSasl (names_of (scram ∷ [])))

abbrev pub spelled : Outcome → List ℕ
spelled Unencrypted = codes "N"
spelled (Denied why) = bytes_of (error_of why)
spelled Welcome = bytes_of admission
spelled (Challenge text) = bytes_of (challenge text)
spelled (Signed text) = bytes_of (signature text) ++ bytes_of admission
spelled o = []

-- why it has no spelling: a text that is too long for a message
abbrev pub cause_of : Outcome → Cause
cause_of (Challenge text) = cause (challenge text)
cause_of (Signed text) = cause (signature text)
cause_of o = None

-- The call of a writer of a message.
abbrev pub Replies : {K : Type 0} → Message → (Held K → ℕ → Type 0) → Held K → Held K → Result (Unit {0}) Error → Type 0
Replies m lacks old new result = Writes (bytes_of m) (cause m) lacks old new result

-- ---- a step

module _ {A K : Type 0} (memory : Type 0) (lacks : Held K → ℕ → Type 0) where
  -- nothing was sent: memory was refused before it was decided, or what was decided couldn't be sent
  abbrev pub Unanswered : ClientMessage → Serving A → Serving A → Held K → Error → Type 0
  Unanswered m old new here e = WantsMemory memory e
      ⊎ ((o : Outcome) × Comes (due old.phase m) old.method o new.method × (WantsMemory (Wants lacks here (length (spelled o))) e ⊎ (cause_of o ≡ Some e)))

  -- What a step comes to: it is decided, and all of the answer is sent; or nothing is sent, and the session is over.
  abbrev pub Steps : ClientMessage → Serving A → Serving A → Held K → Held K → Result ServingEvent Error → Type 0
  Steps m old new before behind (Ok event) = (o : Outcome) × Comes (due old.phase m) old.method o new.method
      × (event ≡ event_of o) × (new.phase ≡ phase_after o) × (cause_of o ≡ None) × (behind ≡ before ⊕ spelled o)
  Steps m old new before behind (Err e) = (new.phase ≡ Over) × Leaves before behind × Unanswered m old new before e

  -- steps one after the other, on these messages
  abbrev pub StepsAll : List ClientMessage → Serving A → Serving A → Type 0
  StepsAll [] old new = new ≡ old
  StepsAll (m ∷ ms) old new = (mid : Serving A) × (before behind : Held K) × (result : Result ServingEvent Error)
      × Steps m old mid before behind result × StepsAll ms mid new

-- the client was asked for this
abbrev pub IsAsked : {A : Type 0} → Method A → Serving A → Type 0
IsAsked start s = (s.method ≡ start) × ((s.phase ≡ AwaitsPassword) ⊎ (s.phase ≡ AwaitsFirst))

-- ---- a whole run

-- the first messages came among the second in this order, others before, between and after them
pub data ReceivedIn : List ClientMessage → List ClientMessage → Type 0 where
  NoneWanted : {received : List ClientMessage} → ReceivedIn [] received
  OneReceived : {wanted received : List ClientMessage} (m : ClientMessage) → ReceivedIn wanted received → ReceivedIn (wanted ++ (m ∷ [])) (received ++ (m ∷ []))
  OtherReceived : {wanted received : List ClientMessage} (m : ClientMessage) → ReceivedIn wanted received → ReceivedIn wanted (received ++ (m ∷ []))

abbrev pub password_message : List ℕ → ClientMessage
password_message text = PasswordMessage text

abbrev pub first_message : List ℕ → ClientMessage
first_message text = SaslInitialResponse scram (Some text)

abbrev pub final_message : List ℕ → ClientMessage
final_message text = SaslResponse text

-- Among the messages that came the client showed what was asked of it. By SCRAM: two texts, of which the second shows the proof that the
-- verifier of the exchange accepts, and the verifier isn't made up (`Admits`).
abbrev pub HasShown : {A : Type 0} → Method A → List ClientMessage → Type 0
HasShown methods.Nothing received = Unit {0}
HasShown (methods.Password stored) received = (text : List ℕ) × ReceivedIn (password_message text ∷ []) received × IsPasswordOf stored text
HasShown (methods.Md5 salt stored) received = (text : List ℕ) × ReceivedIn (password_message text ∷ []) received × AnswersStored stored.items salt text
HasShown (methods.Exchange server) received = (challenged over : Server) × (first final answer signed : List ℕ)
    × ReceivedIn (first_message first ∷ final_message final ∷ []) received × Challenges server first challenged answer × Admits challenged final over signed

-- the client's first text was answered
abbrev pub IsUnderWay : {A : Type 0} → Method A → List ClientMessage → Method A → Type 0
IsUnderWay (methods.Exchange server) received (methods.Exchange now) = (first answer : List ℕ)
    × ReceivedIn (first_message first ∷ []) received × Challenges server first now answer
IsUnderWay start received now = ⊥

-- What is known of a session in which the client was asked for `start`, and since then sent the messages that came.
abbrev pub Knows : {A : Type 0} → Method A → List ClientMessage → ServingPhase → Method A → Type 0
Knows start received AwaitsPassword now = now ≡ start
Knows start received AwaitsFirst now = now ≡ start
Knows start received AwaitsFinal now = IsUnderWay start received now
Knows start received Open now = HasShown start received
Knows start received phase now = Unit {0}

-- ---- the code's words

abbrev pub seen : CodeDue → Due
seen dues.Idle = Idle
seen dues.Encrypts = Encrypts
seen dues.Cancels = Cancels
seen dues.Starts = Starts
seen (dues.Text text) = Text text.now
seen (dues.First mechanism text) = First mechanism.now text.now
seen (dues.Final text) = Final text.now
seen dues.Asks = Asks
seen dues.Ends = Ends
seen dues.Misplaced = Misplaced

abbrev pub shown : {A : Type 0} → CodeOutcome A → Outcome
shown outcomes.Ignored = Ignored
shown outcomes.Unencrypted = Unencrypted
shown outcomes.Cancelled = Cancelled
shown outcomes.Begun = Begun
shown outcomes.Requested = Requested
shown outcomes.Ended = Ended
shown (outcomes.Denied why) = Denied why
shown outcomes.Welcome = Welcome
shown (outcomes.Challenge text) = Challenge text.items
shown (outcomes.Signed text) = Signed text
