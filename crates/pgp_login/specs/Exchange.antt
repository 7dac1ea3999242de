-- An exchange of SCRAM-SHA-256, however it is kept, and what each of its calls comes to.
-- RFC 5802; RFC 7677; PostgreSQL manual, "SASL Authentication".
use Rattle.std.specs.Prelude.{◌≡◌, ◌⊎◌, ℕ, Bool, true, false, if◌then◌else◌, ◌==◌, List, codes, Option, Some, None, Result, Ok, Err, option_map}
use Rattle.std.specs.Str.{IsUtf8}
use Rattle.pgp_base.specs.Cause.{WantsMemory}
use Rattle.pgp_base.specs.declared.error.Error.{Error}
use Rattle.pgp_auth.specs.Prepared.{prepared}
use Rattle.pgp_auth.specs.ScramClient.{Begun, Client, State, AwaitsFirst, AwaitsFinal, Over, NotShown, awaited_of, first_text}
use Rattle.pgp_auth.specs.ScramRefusal.{Refusal, OutOfMemory, WrongState, Admitted, Meets, RefusesFirst, Verifies}
use Rattle.pgp_auth.specs.ScramServer.{Accepts, Signs}
use Rattle.pgp_auth.specs.ScramText.{Binding, IsNonce, TlsServerEndPoint, Unrequested, Unsupported}
use Rattle.pgp_auth.specs.Verifier.{verifier}
use Rattle.pgp_frontend.specs.ClientMessage.{ClientMessage, SaslInitialResponse, SaslResponse}
use Rattle.pgp_frontend.specs.Payload.{cause}
pub use Rattle.pgp_frontend.specs.Payload.{Added, AddsReply}
use Rattle.pgp_login.specs.Fault.{BadNonce, Fault, Scram, Unwritten, fault}
use Rattle.pgp_login.specs.declared.caller.Caller.{Caller}
use Rattle.pgp_login.specs.declared.fault.LoginError.{LoginError}

-- An exchange as a value: what it begins with, as long as it may begin, and the signature that it awaits of the server's final text.
pub record Seen : Type 0 where
  pub begun : Option Begun
  pub awaited : Option (List ℕ)

-- ---- what is said

-- RFC 5802, section 6: an exchange that is bound to the channel has another mechanism
abbrev pub is_bound : Binding → Bool
is_bound (TlsServerEndPoint certificate) = true
is_bound b = false

abbrev pub mechanism_by : Bool → List ℕ
mechanism_by bound = if bound then codes "SCRAM-SHA-256-PLUS" else codes "SCRAM-SHA-256"

abbrev pub mechanism : Begun → List ℕ
mechanism b = mechanism_by (is_bound b.binding)

-- its first message
abbrev pub initial : Begun → ClientMessage
initial b = SaslInitialResponse (mechanism b) (Some (first_text b))

-- The answer to the server's first text: a server that holds the verifier of the password takes it, and shows this signature.
pub record Replies (b : Begun) (text answer signature : List ℕ) : Type 0 where
  pub nonce : List ℕ
  pub salt : List ℕ
  pub count : ℕ
  pub meets : Meets b.nonce text nonce salt count
  pub accepts : Accepts (verifier b.password salt count) b.binding (first_text b) text answer
  pub signs : Signs (verifier b.password salt count) b.binding (first_text b) text signature

-- ---- why not

-- a message isn't written, for want of memory or for its cause
abbrev pub Unsent : Type 0 → ClientMessage → Error → Type 0
Unsent lacks m e = WantsMemory lacks e ⊎ (cause m ≡ Some e)

abbrev pub UnsentAs : Type 0 → ClientMessage → Fault → Type 0
UnsentAs lacks m f = (e : Error) × (f ≡ Unwritten e) × Unsent lacks m e

-- it doesn't begin: it may not, or what the caller handed over is no nonce, or there is no memory
pub data Unbegun (lacks : Type 0) (x : Seen) : Fault → Type 0 where
  WasBegun : x.begun ≡ None → Unbegun lacks x (Scram WrongState)
  NoNonce : (b : Begun) → x.begun ≡ Some b → (¬ IsUtf8 b.nonce) ⊎ (¬ IsNonce b.nonce) → Unbegun lacks x BadNonce
  NoMemory : lacks → Unbegun lacks x (Scram OutOfMemory)

-- the server's first text isn't answered
abbrev pub RefusesText : Type 0 → Begun → List ℕ → Refusal → Type 0
RefusesText lacks b text r = RefusesFirst b.nonce text r ⊎ ((r ≡ OutOfMemory) × lacks × Admitted b.nonce text)

pub data NotReplied (lacks : Type 0) (x : Seen) (text : List ℕ) (f : Fault) : Type 0 where
  NotBegun : Unbegun lacks x f → NotReplied lacks x text f
  Refuses : (b : Begun) (r : Refusal) → x.begun ≡ Some b → f ≡ Scram r → RefusesText lacks b text r → NotReplied lacks x text f
  NotSent : (b : Begun) (answer signature : List ℕ) → x.begun ≡ Some b → Replies b text answer signature → UnsentAs lacks (SaslResponse answer) f → NotReplied lacks x text f

-- the server's final text doesn't show the signature, or none is awaited
pub data NotVerified (lacks : Type 0) (x : Seen) (text : List ℕ) (f : Fault) : Type 0 where
  NoneAwaited : x.awaited ≡ None → f ≡ Scram WrongState → NotVerified lacks x text f
  Shows : (signature : List ℕ) (r : Refusal) → x.awaited ≡ Some signature → f ≡ Scram r → NotShown lacks signature text r → NotVerified lacks x text f

-- ---- the calls. `lacks` says that memory was refused; `out` are the bytes to send before, `grown` those after.

abbrev pub bound_of : Seen → Option Bool
bound_of x = option_map (λ (b : Begun). is_bound b.binding) x.begun

module _ {A : Type 0} (lacks : Type 0) where
  -- the first message is appended
  abbrev pub Begins : Seen → List ℕ → List ℕ → Result (Unit {0}) (LoginError A) → Type 0
  Begins x out grown (Ok done) = (b : Begun) × (x.begun ≡ Some b) × Added (initial b) out grown
  Begins x out grown (Err e) = Unbegun lacks x (fault e) ⊎ ((b : Begun) × (x.begun ≡ Some b) × UnsentAs lacks (initial b) (fault e))

  -- the answer to the server's first text is appended, and its signature is awaited
  abbrev pub Answers : List ℕ → Seen → Seen → List ℕ → List ℕ → Result (Unit {0}) (LoginError A) → Type 0
  Answers text x y out grown (Ok done) = (b : Begun) × (answer : List ℕ) × (signature : List ℕ) × (x.begun ≡ Some b) × Replies b text answer signature × (y.awaited ≡ Some signature) × Added (SaslResponse answer) out grown
  Answers text x y out grown (Err e) = NotReplied lacks x text (fault e)

  -- the server's final text shows the signature
  abbrev pub Verified : List ℕ → Seen → Result (Unit {0}) (LoginError A) → Type 0
  Verified text x (Ok done) = (signature : List ℕ) × (x.awaited ≡ Some signature) × Verifies signature text
  Verified text x (Err e) = NotVerified lacks x text (fault e)

-- ---- the two ways to keep one

-- a client that stands there whole
abbrev pub begun_of : State → Option Begun
begun_of (AwaitsFirst b) = Some b
begun_of (AwaitsFinal answered) = None
begun_of Over = None

abbrev pub seen_client : Client → Seen
seen_client c = record { begun = begun_of c.state; awaited = awaited_of c.state }

-- a caller's bytes, of which one is made anew at each call
abbrev pub binding_at : ℕ → List ℕ → Option Binding
binding_at kind certificate = if kind == 0 then Some Unsupported else if kind == 1 then Some Unrequested else if kind == 2 then Some (TlsServerEndPoint certificate) else None

-- the password is prepared, and no mapping is asked
abbrev pub begun_with : List ℕ → List ℕ → Binding → Begun
begun_with password nonce binding = record { password = prepared (λ _. None) password; binding = binding; nonce = nonce }

abbrev pub seen_caller : Caller → Seen
seen_caller c = record { begun = option_map (λ (b : Binding). begun_with c.password.now c.nonce.now b) (binding_at c.kind c.certificate.now); awaited = Some c.signature }

-- *private*: why a client isn't made of a caller's bytes

abbrev pub Unmade : Type 0 → List ℕ → Fault → Type 0
Unmade lacks nonce f = ((f ≡ BadNonce) × ((¬ IsUtf8 nonce) ⊎ (¬ IsNonce nonce))) ⊎ ((f ≡ Scram OutOfMemory) × lacks)

abbrev pub NoBinding : Type 0 → ℕ → List ℕ → Fault → Type 0
NoBinding lacks kind certificate f = ((f ≡ Scram WrongState) × (binding_at kind certificate ≡ None)) ⊎ ((f ≡ Scram OutOfMemory) × lacks)
