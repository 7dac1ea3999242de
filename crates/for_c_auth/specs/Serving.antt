-- The server's side of SCRAM-SHA-256, whose steps keep nothing.
use Rattle.std.specs.Prelude.{◌≡◌, ◌≢◌, ◌⊎◌, ℕ, false, List}
use Rattle.std.specs.Str.{IsUtf8}
use Rattle.pgp_auth.specs.ScramServing.{AwaitsFirst, Admits, Challenges, Chosen, Declined, FinalRefused, FirstRefused, NotOffered, Offer, Server}
use Rattle.pgp_auth.specs.ScramStored.{NotStored, Stores}
use Rattle.pgp_auth.specs.ScramText.{IsNonce}
use Rattle.pgp_auth.specs.Verifier.{Verifier}
use Rattle.pgp_auth.specs.declared.scram.server_error.ServerError.{ServerError}
use Rattle.pgp_auth.specs.declared.scram.server_error.ServerError.TheVariants as errors
use Rattle.pgp_auth.specs.declared.scram.server_error.VerifierError.{VerifierError}
use Rattle.pgp_auth.specs.declared.scram.server_error.VerifierError.TheVariants as faults

-- What C hands over each time: the stored verifier's text, what became of channel binding, and the server's own part of the nonce.
pub record Serve : Type 0 where
  pub stored : List ℕ
  pub kind : ℕ
  pub certificate : List ℕ
  pub nonce : List ℕ

abbrev pub serve : List ℕ → ℕ → List ℕ → List ℕ → Serve
serve stored kind certificate nonce = record { stored = stored; kind = kind; certificate = certificate; nonce = nonce }

-- this is the offer of the number and the bytes that C hands over
abbrev pub Offers : ℕ → List ℕ → Offer → Type 0
Offers kind certificate o = ((kind ≡ 0) × (o ≡ NotOffered)) ⊎ (((kind ≡ 1) × (o ≡ Declined)) ⊎ ((kind ≡ 2) × (o ≡ Chosen certificate)))

-- the number of an error of a step
abbrev pub step_code : ServerError → ℕ
step_code errors.OutOfMemory = 1
step_code errors.WrongState = 66
step_code errors.UnsupportedBinding = 84
step_code errors.InvalidFirst = 85
step_code errors.OtherExchange = 86
step_code errors.InvalidEncoding = 87
step_code errors.InvalidProof = 88

-- the number of an error of a stored text
abbrev pub stored_code : VerifierError → ℕ
stored_code faults.OutOfMemory = 1
stored_code faults.NotAVerifier = 82

-- a server that awaits the client's first text with the stored verifier
pub record Serves (s : Serve) (server : Server) : Type 0 where
  pub verifier : Verifier
  pub stores : Stores s.stored verifier
  pub offer : Offer
  pub named : Offers s.kind s.certificate offer
  pub is : server ≡ AwaitsFirst (record { verifier = verifier; is_mock = false; offer = offer; own = s.nonce })

-- why there is none: the nonce isn't text or no nonce, or the number names no offer, or the text stores no verifier, or an allocation failed
abbrev pub ServeRefused : Type 0 → Serve → ℕ → Type 0
ServeRefused lacks s code =
    ((code ≡ 80) × ((¬ IsUtf8 s.nonce) ⊎ (¬ IsNonce s.nonce)))
    ⊎ (((code ≡ 81) × (s.kind ≢ 0) × (s.kind ≢ 1) × (s.kind ≢ 2))
    ⊎ (((e : VerifierError) × NotStored lacks s.stored e × (code ≡ stored_code e))
    ⊎ ((code ≡ 1) × lacks)))

-- Such a server takes the client's first text, with this answer.
pub record HasChallenged (s : Serve) (client_first text : List ℕ) (server : Server) : Type 0 where
  pub start : Server
  pub serves : Serves s start
  pub challenges : Challenges start client_first server text

-- the text is the answer to the client's first text
abbrev pub AnswersFirst : Serve → List ℕ → List ℕ → Type 0
AnswersFirst s client_first text = (server : Server) × HasChallenged s client_first text server

-- such a server rejects the client's first text, and this is the error's number
pub record OpeningRefused (lacks : Type 0) (s : Serve) (client_first : List ℕ) (code : ℕ) : Type 0 where
  pub start : Server
  pub serves : Serves s start
  pub after : Server
  pub error : ServerError
  pub refused : FirstRefused lacks start client_first error after
  pub code_is : code ≡ step_code error

abbrev pub NotChallenged : Type 0 → Serve → List ℕ → ℕ → Type 0
NotChallenged lacks s client_first code = ServeRefused lacks s code ⊎ OpeningRefused lacks s client_first code

-- The server that has challenged accepts the client's final text, with this answer: the client has shown the password's key (`Admits`).
pub record AdmitsWith (s : Serve) (client_first client_final text : List ℕ) : Type 0 where
  pub challenge : List ℕ
  pub between : Server
  pub challenged : HasChallenged s client_first challenge between
  pub after : Server
  pub admits : Admits between client_final after text

-- it rejects the client's final text, and this is the error's number
pub record ProofRefused (s : Serve) (client_first client_final : List ℕ) (code : ℕ) : Type 0 where
  pub challenge : List ℕ
  pub between : Server
  pub challenged : HasChallenged s client_first challenge between
  pub after : Server
  pub error : ServerError
  pub refused : FinalRefused between client_final error after
  pub code_is : code ≡ step_code error
