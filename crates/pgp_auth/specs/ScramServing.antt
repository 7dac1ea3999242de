-- The server's side of an exchange: what it keeps, and what each call comes to. Which final texts it accepts, and
-- what it signs, is `ScramServer`.
use Rattle.std.specs.Prelude.{◌≡◌, ◌≢◌, ℕ, Bool, true, false, ◌⊎◌, List, ◌++◌, length, codes}
use Rattle.std.specs.Fmt.{decimal}
use Rattle.sha2.specs.Sha256.{sha256}
use Rattle.pgp_base.specs.Wire.{IsBytes}
use Rattle.pgp_auth.specs.Base64.{base64, Shows}
use Rattle.pgp_auth.specs.Hmac.{mac}
use Rattle.pgp_auth.specs.IteratedKey.{xor_bytes}
use Rattle.pgp_auth.specs.Verifier.{Verifier}
use Rattle.pgp_auth.specs.ScramText.{Binding, Unsupported, Unrequested, TlsServerEndPoint, IsUserName, IsNonce, gs2_header, named_first, with_proof}
use Rattle.pgp_auth.specs.ScramServer.{Expects, Accepts, Signs}
use Rattle.pgp_auth.specs.declared.scram.server_error.ServerError.{ServerError}
use Rattle.pgp_auth.specs.declared.scram.server_error.ServerError.TheVariants.{OutOfMemory, WrongState, UnsupportedBinding, InvalidFirst, OtherExchange, InvalidEncoding, InvalidProof}

-- what became of channel binding before the exchange: the server didn't offer it; the client chose the mechanism
-- without it, though it was offered; or the client chose it, and the server's certificate has this hash
pub data Offer : Type 0 where
  NotOffered : Offer
  Declined : Offer
  Chosen : List ℕ → Offer

-- Which binding the client may claim. One that says that none was offered, where one was, was deceived.
abbrev pub IsTaken : Offer → Binding → Type 0
IsTaken NotOffered Unsupported = Unit {0}
IsTaken NotOffered Unrequested = Unit {0}
IsTaken NotOffered (TlsServerEndPoint hash) = ⊥
IsTaken Declined Unsupported = Unit {0}
IsTaken Declined Unrequested = ⊥
IsTaken Declined (TlsServerEndPoint hash) = ⊥
IsTaken (Chosen certificate) Unsupported = ⊥
IsTaken (Chosen certificate) Unrequested = ⊥
IsTaken (Chosen certificate) (TlsServerEndPoint hash) = hash ≡ certificate

-- until the client's first text: the verifier, whether it is a made-up one, with which no proof is accepted, the
-- offer, and the server's own part of the nonce
pub record Serving : Type 0 where
  pub verifier : Verifier
  pub is_mock : Bool
  pub offer : Offer
  pub own : List ℕ

-- from then on: what the client claims, the user's name and the client's part of the nonce
pub record Challenge : Type 0 where
  pub verifier : Verifier
  pub is_mock : Bool
  pub binding : Binding
  pub user : List ℕ
  pub nonce : List ℕ
  pub own : List ℕ

pub data Server : Type 0 where
  AwaitsFirst : Serving → Server
  AwaitsFinal : Challenge → Server
  Over : Server

-- the two first texts of a challenge
abbrev pub first_of : Challenge → List ℕ
first_of c = named_first c.binding c.user c.nonce

abbrev pub server_first : List ℕ → List ℕ → ℕ → List ℕ
server_first nonce salt count = codes "r=" ++ (nonce ++ (codes ",s=" ++ (base64 salt ++ (codes ",i=" ++ decimal count))))

abbrev pub answer_of : Challenge → List ℕ
answer_of c = server_first (c.nonce ++ c.own) c.verifier.salt c.verifier.count

-- the text is a client's first text, with a binding that is taken
pub record Opens (serving : Serving) (text : List ℕ) (c : Challenge) : Type 0 where
  pub taken : IsTaken serving.offer c.binding
  pub is_name : IsUserName c.user
  pub is_nonce : IsNonce c.nonce
  pub verifier_is : c.verifier ≡ serving.verifier
  pub mock_is : c.is_mock ≡ serving.is_mock
  pub own_is : c.own ≡ serving.own
  pub text_is : text ≡ first_of c

-- `first` that is Ok
pub record Challenges (old : Server) (text : List ℕ) (new : Server) (answer : List ℕ) : Type 0 where
  pub serving : Serving
  pub challenge : Challenge
  pub due : old ≡ AwaitsFirst serving
  pub opens : Opens serving text challenge
  pub answer_is : answer ≡ answer_of challenge
  pub new_is : new ≡ AwaitsFinal challenge

-- a header that claims a binding which is taken stands at the front of the text
pub record HasHeader (offer : Offer) (text : List ℕ) : Type 0 where
  pub binding : Binding
  pub rest : List ℕ
  pub taken : IsTaken offer binding
  pub text_is : text ≡ gs2_header binding ++ rest

-- Why a server that serves so refuses a client's first text. `lacks` says that an allocation failed: memory is wanted only for a text that opens.
abbrev pub NotOpened : Type 0 → Serving → List ℕ → ServerError → Type 0
NotOpened lacks serving text e =
    ((e ≡ OutOfMemory) × lacks × ((c : Challenge) × Opens serving text c))
    ⊎ (((e ≡ UnsupportedBinding) × ((b : Binding) (rest : List ℕ) → IsTaken serving.offer b → text ≢ gs2_header b ++ rest))
    ⊎ ((e ≡ InvalidFirst) × HasHeader serving.offer text × ((b : Binding) (user nonce : List ℕ) → IsTaken serving.offer b → IsUserName user → IsNonce nonce → text ≢ named_first b user nonce)))

abbrev pub FirstRefuses : Type 0 → Server → List ℕ → ServerError → Type 0
FirstRefuses lacks (AwaitsFirst serving) text e = NotOpened lacks serving text e
FirstRefuses lacks (AwaitsFinal c) text e = e ≡ WrongState
FirstRefuses lacks Over text e = e ≡ WrongState

-- a rejected `first` ends the exchange
pub record FirstRefused (lacks : Type 0) (old : Server) (text : List ℕ) (e : ServerError) (new : Server) : Type 0 where
  pub why : FirstRefuses lacks old text e
  pub over : new ≡ Over

-- the verifier's server accepts the final text
abbrev pub AcceptsFinal : Challenge → List ℕ → Type 0
AcceptsFinal c text = Accepts c.verifier c.binding (first_of c) (answer_of c) text

-- the final text that a server answers
pub record Shown (c : Challenge) (answer : List ℕ) : Type 0 where
  pub signature : List ℕ
  pub signs : Signs c.verifier c.binding (first_of c) (answer_of c) signature
  pub answer_is : answer ≡ codes "v=" ++ base64 signature

-- `finish` that is Ok
pub record Admits (old : Server) (text : List ℕ) (new : Server) (answer : List ℕ) : Type 0 where
  pub challenge : Challenge
  pub due : old ≡ AwaitsFinal challenge
  pub not_mock : challenge.is_mock ≡ false
  pub accepts : AcceptsFinal challenge text
  pub shown : Shown challenge answer
  pub over : new ≡ Over

-- how the final text has to begin, and what both sides sign
abbrev pub ExpectsOf : Challenge → List ℕ → List ℕ → Type 0
ExpectsOf c front auth = Expects c.binding (first_of c) (answer_of c) front auth

-- why a client's final text is rejected
pub data RefusesProof (c : Challenge) (text : List ℕ) : ServerError → Type 0 where
  other_exchange : (front auth : List ℕ) → ExpectsOf c front auth → ((shown : List ℕ) → text ≢ with_proof front shown) → RefusesProof c text OtherExchange
  no_proof : (front auth shown : List ℕ) → ExpectsOf c front auth → text ≡ with_proof front shown
      → ((proof : List ℕ) → length proof ≡ 32 → ¬ Shows shown proof) → RefusesProof c text InvalidEncoding
  other_proof : (front auth shown proof : List ℕ) → ExpectsOf c front auth → text ≡ with_proof front shown → length proof ≡ 32 → Shows shown proof
      → sha256 (xor_bytes proof (mac c.verifier.stored_key auth)) ≢ c.verifier.stored_key → RefusesProof c text InvalidProof
  mock : (front auth shown proof : List ℕ) → ExpectsOf c front auth → text ≡ with_proof front shown → length proof ≡ 32 → Shows shown proof
      → c.is_mock ≡ true → RefusesProof c text InvalidProof

-- each of these texts isn't accepted, or there is no verifier
pub record NotAdmitted (c : Challenge) (text : List ℕ) (e : ServerError) : Type 0 where
  pub why : RefusesProof c text e
  pub not_accepted : c.is_mock ≡ false → ¬ AcceptsFinal c text

abbrev pub FinalRefuses : Server → List ℕ → ServerError → Type 0
FinalRefuses (AwaitsFirst serving) text e = e ≡ WrongState
FinalRefuses (AwaitsFinal c) text e = NotAdmitted c text e
FinalRefuses Over text e = e ≡ WrongState

-- a rejected `finish` ends the exchange
pub record FinalRefused (old : Server) (text : List ℕ) (e : ServerError) (new : Server) : Type 0 where
  pub why : FinalRefuses old text e
  pub over : new ≡ Over

-- The final text shows a client's key: its digest is the stored key, and the proof is the key xor a code of the text that
-- is signed, by the stored key.
pub record ShowsKey (c : Challenge) (text : List ℕ) : Type 0 where
  pub front : List ℕ
  pub auth : List ℕ
  pub key : List ℕ
  pub expects : ExpectsOf c front auth
  pub len : length key ≡ 32
  pub bytes : IsBytes key
  pub digest : sha256 key ≡ c.verifier.stored_key
  pub text_is : text ≡ with_proof front (base64 (xor_bytes key (mac c.verifier.stored_key auth)))
