-- The client's side of an exchange: what it keeps, and what each call comes to.
use Rattle.std.specs.Prelude.{◌≡◌, ℕ, ◌+◌, ◌<◌, ◌≤◌, ◌⊎◌, max, List, ◌++◌, length, codes, Option, Some, None}
use Rattle.pgp_auth.specs.Base64.{base64}
use Rattle.pgp_auth.specs.Hmac.{mac}
use Rattle.pgp_auth.specs.IteratedKey.{salted}
use Rattle.pgp_auth.specs.Verifier.{verifier}
use Rattle.pgp_auth.specs.ScramText.{Binding, client_first, ServerFinal}
use Rattle.pgp_auth.specs.ScramServer.{Accepts, Signs}
use Rattle.pgp_auth.specs.ScramRefusal.{Refusal, OutOfMemory, WrongState, Verification, Admitted, Meets, RefusesFirst, RefusesFinal, IsServerError, Verifies, ShowsOther}

-- until the server's first text: the prepared password, the channel binding and the client's nonce
pub record Begun : Type 0 where
  pub password : List ℕ
  pub binding : Binding
  pub nonce : List ℕ

-- from then on: the salted key, the text that is signed and the final text
pub record Answered : Type 0 where
  pub key : List ℕ
  pub auth : List ℕ
  pub final : List ℕ

pub data State : Type 0 where
  AwaitsFirst : Begun → State
  AwaitsFinal : Answered → State
  Over : State

-- the state, and the HMACs that were made so far
pub record Client : Type 0 where
  pub state : State
  pub hmacs : ℕ

-- a client that has begun
abbrev pub fresh : List ℕ → Binding → List ℕ → Client
fresh password binding nonce = record { state = AwaitsFirst (record { password = password; binding = binding; nonce = nonce }); hmacs = 0 }

abbrev pub first_text : Begun → List ℕ
first_text begun = client_first begun.binding begun.nonce

-- the text to send
abbrev pub message_of : State → Option (List ℕ)
message_of (AwaitsFirst begun) = Some (first_text begun)
message_of (AwaitsFinal answered) = Some answered.final
message_of Over = None

-- the signature that a server has to show
abbrev pub signature_of : Answered → List ℕ
signature_of answered = mac (mac answered.key (codes "Server Key")) answered.auth

-- the signature that is awaited, once the server's first text was taken
abbrev pub awaited_of : State → Option (List ℕ)
awaited_of (AwaitsFirst begun) = None
awaited_of (AwaitsFinal answered) = Some (signature_of answered)
awaited_of Over = None

-- `update` that is Ok: it was due, the text meets the client's conditions, the server that holds the
-- verifier of the client's password accepts the final text, and its signature is the one that is awaited
pub record Answers (old : Client) (text : List ℕ) (new : Client) : Type 0 where
  pub begun : Begun
  pub nonce : List ℕ
  pub salt : List ℕ
  pub count : ℕ
  pub answered : Answered
  pub due : old.state ≡ AwaitsFirst begun
  pub meets : Meets begun.nonce text nonce salt count
  pub accepts : Accepts (verifier begun.password salt count) begun.binding (first_text begun) text answered.final
  pub signs : Signs (verifier begun.password salt count) begun.binding (first_text begun) text (signature_of answered)
  pub key_is : answered.key ≡ salted begun.password salt count
  pub new_is : new ≡ record { state = AwaitsFinal answered; hmacs = old.hmacs + (max count 1 + 2) }

-- memory was refused while HMACs were made or after them: the text meets the conditions, and there are no
-- more HMACs than an `update` makes that is Ok
pub record MadeSome (client_nonce text : List ℕ) (before after : ℕ) : Type 0 where
  pub nonce : List ℕ
  pub salt : List ℕ
  pub count : ℕ
  pub meets : Meets client_nonce text nonce salt count
  pub grows : before ≤ after
  pub at_most : after ≤ before + (max count 1 + 2)

-- why `update` refuses in a state, and the HMACs before and after it. It takes memory for the salt and what
-- comes after it, so no cause gives way to lack of memory but a salt that isn't base64.
abbrev pub UpdateRefuses : Type 0 → State → List ℕ → Refusal → ℕ → ℕ → Type 0
UpdateRefuses lacks (AwaitsFirst begun) text e before after =
    (RefusesFirst begun.nonce text e × (after ≡ before)) ⊎ ((e ≡ OutOfMemory) × lacks × Admitted begun.nonce text × ((after ≡ before) ⊎ MadeSome begun.nonce text before after))
UpdateRefuses lacks (AwaitsFinal answered) text e before after = (e ≡ WrongState) × (after ≡ before)
UpdateRefuses lacks Over text e before after = (e ≡ WrongState) × (after ≡ before)

-- a rejected `update` ends the exchange
pub record UpdateRefused (lacks : Type 0) (old : Client) (text : List ℕ) (e : Refusal) (new : Client) : Type 0 where
  pub why : UpdateRefuses lacks old.state text e old.hmacs new.hmacs
  pub over : new.state ≡ Over

-- `finish` that is Ok: it was due, and the text shows the signature; the exchange is over
pub record Finished (old : Client) (text : List ℕ) (new : Client) : Type 0 where
  pub answered : Answered
  pub due : old.state ≡ AwaitsFinal answered
  pub verifies : Verifies (signature_of answered) text
  pub over : new.state ≡ Over
  pub hmacs : new.hmacs ≡ old.hmacs + 2

-- an `update` and a `finish` that were Ok, one after the other
pub record Completes (old : Client) (server_first server_final : List ℕ) (new : Client) : Type 0 where
  pub between : Client
  pub answers : Answers old server_first between
  pub finished : Finished between server_final new

-- `finish` takes memory for the server's error and for base64 of more than 64 characters
pub data TakesMemory (text : List ℕ) : Type 0 where
  error : {reason : List ℕ} → IsServerError text reason → TakesMemory text
  long : {shown : List ℕ} → ServerFinal text shown → 64 < length shown → TakesMemory text

-- why `finish` refuses a text in the place of this signature, and the HMACs before and after it. `lacks` says
-- that an allocation failed.
abbrev pub NotVerified : Type 0 → List ℕ → List ℕ → Refusal → ℕ → ℕ → Type 0
NotVerified lacks signature text e before after =
    (RefusesFinal text e × (after ≡ before))
    ⊎ (((e ≡ Verification) × ShowsOther signature text × (after ≡ before + 2))
    ⊎ ((e ≡ OutOfMemory) × lacks × TakesMemory text × (after ≡ before)))

-- the same where the signature is known, without HMACs
abbrev pub NotShown : Type 0 → List ℕ → List ℕ → Refusal → Type 0
NotShown lacks signature text e = RefusesFinal text e ⊎ (((e ≡ Verification) × ShowsOther signature text) ⊎ ((e ≡ OutOfMemory) × lacks × TakesMemory text))

abbrev pub FinishRefuses : Type 0 → State → List ℕ → Refusal → ℕ → ℕ → Type 0
FinishRefuses lacks (AwaitsFinal answered) text e before after = NotVerified lacks (signature_of answered) text e before after
FinishRefuses lacks (AwaitsFirst begun) text e before after = (e ≡ WrongState) × (after ≡ before)
FinishRefuses lacks Over text e before after = (e ≡ WrongState) × (after ≡ before)

-- a rejected `finish` ends the exchange
pub record FinishRefused (lacks : Type 0) (old : Client) (text : List ℕ) (e : Refusal) (new : Client) : Type 0 where
  pub why : FinishRefuses lacks old.state text e old.hmacs new.hmacs
  pub over : new.state ≡ Over

-- the two texts of a server that holds the verifier of this client's password: a first text that meets the
-- client's conditions, and the signature of what was said so far
pub record Serves (state : State) (server_first server_final : List ℕ) : Type 0 where
  pub begun : Begun
  pub nonce : List ℕ
  pub salt : List ℕ
  pub count : ℕ
  pub signature : List ℕ
  pub due : state ≡ AwaitsFirst begun
  pub meets : Meets begun.nonce server_first nonce salt count
  pub signs : Signs (verifier begun.password salt count) begun.binding (first_text begun) server_first signature
  pub final_is : server_final ≡ codes "v=" ++ base64 signature
