-- A client's core and a server's core that log in by SCRAM-SHA-256: each is handed what the other sends.
-- RFC 5802, section 5; PostgreSQL manual, "SASL Authentication".
use Rattle.std.specs.Prelude.{◌≡◌, ◌⊎◌, ◌≤◌, ◌++◌, ℕ, true, false, List, [], ◌∷◌, Option, Some, Result, Ok, Err, length, map}
use Rattle.pgp_base.specs.Cause.{Wants, WantsMemory}
use Rattle.pgp_base.specs.Held.{Held, ◌⊕◌}
use Rattle.pgp_base.specs.Wire.{IsBytes}
use Rattle.pgp_base.specs.declared.error.Error.{Error}
use Rattle.pgp_auth.specs.ScramClient.{Client}
use Rattle.pgp_auth.specs.ScramClient as client
use Rattle.pgp_auth.specs.ScramErrorView.{refusal}
use Rattle.pgp_auth.specs.ScramRefusal.{OutOfMemory}
use Rattle.pgp_auth.specs.ScramServing.{IsTaken, Offer}
use Rattle.pgp_auth.specs.ScramServing as server
use Rattle.pgp_auth.specs.ScramText.{Binding, IsNonce}
use Rattle.pgp_auth.specs.Verifier.{verifier}
use Rattle.pgp_client.specs.Taking.{asked}
use Rattle.pgp_client.specs.Telling.{start}
use Rattle.pgp_client.specs.declared.event.Event.{Event}
use Rattle.pgp_client.specs.declared.event.Event.TheVariants.{Part}
use Rattle.pgp_client.specs.declared.request.Request.TheVariants.{Startup}
use Rattle.pgp_frontend.specs.ClientMessage.{ClientMessage}
use Rattle.pgp_frontend.specs.ClientRun.{kinds_of}
use Rattle.pgp_message.specs.BackendMessage.{Message}
use Rattle.pgp_message.specs.Stream.{Frames}
use Rattle.pgp_message_write.specs.Reply.{bytes_of}
use Rattle.pgp_session.specs.Connection.{Shown as Connected, is_logged_in}
use Rattle.pgp_session.specs.Connection as connection
use Rattle.pgp_login.specs.Exchange.{Added, Unsent, is_bound, seen_client}
use Rattle.pgp_session.specs.Serving.{Challenge, Outcome, Signed, admission, cause_of, challenge, final_message, first_message, kind_in, scram_offer, signature, spelled}
use Rattle.pgp_session.specs.Serving as serving
use Rattle.pgp_session.specs.declared.connection.ConnectionPhase.TheVariants.{Started}
use Rattle.pgp_session.specs.declared.connection_error.ConnectionError.{ConnectionError}
use Rattle.pgp_session.specs.declared.connection_error.ConnectionError.TheVariants as errors
use Rattle.pgp_login.specs.declared.login.LoginPhase.TheVariants.{AwaitsOffer}
use Rattle.pgp_session.specs.declared.serving.Method.TheVariants.{Exchange}
use Rattle.pgp_session.specs.declared.serving.Serving.{Serving}
use Rattle.pgp_session.specs.declared.serving.ServingEvent.{ServingEvent}
use Rattle.pgp_session.specs.declared.serving.ServingEvent.TheVariants.{Challenged, LoggedIn}
use Rattle.pgp_session.specs.declared.serving.ServingPhase.TheVariants.{AwaitsFirst, Open}

-- The client's exchange has begun, and isn't bound to the channel, for which the server's core has no mechanism; and that core has made the offer: it
-- holds the verifier of the client's password, and takes what the exchange says of a binding.
pub record Facing {A : Type 0} (exchange : Client) (serving : Serving A) : Type 0 where
  pub password : List ℕ
  pub salt : List ℕ
  pub count : ℕ
  -- the client's part of the nonce, and the server's
  pub nonce : List ℕ
  pub own : List ℕ
  pub binding : Binding
  pub offer : Offer
  pub exchange_is : exchange.state ≡ client.AwaitsFirst (record { password = password; binding = binding; nonce = nonce })
  pub unbound : is_bound binding ≡ false
  pub awaits : serving.phase ≡ AwaitsFirst
  pub holds : serving.method ≡ Exchange (server.AwaitsFirst (record { verifier = verifier password salt count; is_mock = false; offer = offer; own = own }))
  pub taken : IsTaken offer binding
  pub is_nonce : IsNonce nonce
  pub own_is : IsNonce own
  pub salt_is : IsBytes salt
  pub few : count ≤ 100000

-- The bytes are read as these messages of a server, whatever follows: so by each parser, however they are cut.
abbrev pub AreRead : List ℕ → List Message → Type 0
AreRead bytes ms = (rest : List ℕ) → IsBytes bytes → Frames (bytes ++ rest) (map (λ (m : Message). Ok m) ms) rest

-- ---- a server's step

-- the bytes of this answer were appended, which are read as these messages
abbrev pub Answered : {L : Type 0} → Outcome → List Message → Held L → Held L → Type 0
Answered o ms before behind = (behind ≡ before ⊕ spelled o) × AreRead (spelled o) ms

-- The server couldn't send its answer: it lacked memory, or the answer has no spelling, as one that is too long.
abbrev pub IsServersWant : {L : Type 0} → Type 0 → (Held L → ℕ → Type 0) → (List ℕ → Outcome) → Held L → Result ServingEvent Error → Type 0
IsServersWant memory lacks answer here (Ok event) = ⊥
IsServersWant memory lacks answer here (Err e) = WantsMemory memory e ⊎ ((text : List ℕ) × (WantsMemory (Wants lacks here (length (spelled (answer text)))) e ⊎ (cause_of (answer text) ≡ Some e)))

-- The server takes this message, which is of the kind that it expects: whatever its step comes to, it is this event, and then `Next` holds; or it is such a want.
abbrev pub ServerTakes : {A L : Type 0} → Type 0 → (Held L → ℕ → Type 0) → ClientMessage → ServingEvent → (List ℕ → Outcome) → Serving A → (Serving A → Held L → Held L → Type 0) → Type 0
ServerTakes {A} {L} memory lacks m event answer old Next = (kinds_of m ≡ kind_in old.phase ∷ []) × ((new : Serving A) (before behind : Held L) (result : Result ServingEvent Error)
    → serving.Steps memory lacks m old new before behind result → ((result ≡ Ok event) × Next new before behind) ⊎ IsServersWant memory lacks answer before result)

-- ---- the connection

-- there is none
abbrev pub IsNoWant : {T : Type 0} → T → Type 0
IsNoWant result = ⊥

module _ {E : Type 0} (lacks : Type 0) where
  abbrev pub IsConnectionsWant : (List ℕ → ClientMessage) → Result (Option (Event × Message)) (ConnectionError E) → Type 0
  IsConnectionsWant reply (Err (errors.Unwritten e)) = (text : List ℕ) × Unsent lacks (reply text) e
  IsConnectionsWant reply (Err (errors.Scram e)) = (refusal e ≡ OutOfMemory) × lacks
  IsConnectionsWant reply result = ⊥

  -- the connection takes this message, which belongs to its startup packet
  abbrev pub ConnectionTakes : Message → ℕ → (Result (Option (Event × Message)) (ConnectionError E) → Type 0) → Connected → (Connected → Type 0) → Type 0
  ConnectionTakes m name IsWant old Next = (new : Connected) (result : Result (Option (Event × Message)) (ConnectionError E)) → connection.Hears lacks m old new result → ((result ≡ Ok (Some (Part name, m))) × Next new) ⊎ IsWant result

-- The startup packet of this name was sent, and SCRAM-SHA-256 is admitted, by this exchange.
pub record HasStarted (name : ℕ) (exchange : Client) (c : Connected) : Type 0 where
  pub phase : c.phase ≡ Started
  pub talk : c.talk ≡ asked start (record { request = Startup; name = name })
  pub awaits : c.login.phase ≡ AwaitsOffer
  pub admits : c.login.scram ≡ Some (seen_client exchange)

-- Each takes what the other sends, and after the last turn both are logged in.
abbrev pub ConnectionLogsIn : {A L : Type 0} → (E : Type 0) → Type 0 → Type 0 → (Held L → ℕ → Type 0) → ℕ → Connected → Serving A → Type 0
ConnectionLogsIn E lacks memory_there lacks_there name client server =
    AreRead (bytes_of scram_offer) (scram_offer ∷ [])
    × ConnectionTakes {E = E} lacks scram_offer name (IsConnectionsWant lacks first_message) client (λ begun. (first : List ℕ) × Added (first_message first) client.out begun.out
    × ServerTakes memory_there lacks_there (first_message first) Challenged Challenge server (λ challenged before behind. (text : List ℕ) × Answered (Challenge text) (challenge text ∷ []) before behind
    × ConnectionTakes {E = E} lacks (challenge text) name (IsConnectionsWant lacks final_message) begun (λ replied. (final : List ℕ) × Added (final_message final) begun.out replied.out
    × ServerTakes memory_there lacks_there (final_message final) LoggedIn Signed challenged (λ through before behind. (signed : List ℕ) × Answered (Signed signed) (signature signed ∷ admission ∷ []) before behind
    × ConnectionTakes {E = E} lacks (signature signed) name IsNoWant replied (λ verified.
    ConnectionTakes {E = E} lacks admission name IsNoWant verified (λ admitted. (is_logged_in admitted ≡ true) × (through.phase ≡ Open)))))))
