-- A client's exchange of SCRAM-SHA-256, whose steps are handed over what it is made of each time.
use Rattle.std.specs.Prelude.{◌≡◌, ◌≢◌, ◌⊎◌, ℕ, ◌+◌, List, Some, None}
use Rattle.std.specs.Str.{IsUtf8}
use Rattle.pgp_auth.specs.Prepared.{prepared}
use Rattle.pgp_auth.specs.ScramText.{IsNonce, client_first, Binding, Unsupported, Unrequested, TlsServerEndPoint}
use Rattle.pgp_auth.specs.ScramRefusal.{Refusal, OutOfMemory, UnexpectedCharacter, Trailing}
use Rattle.pgp_auth.specs.ScramErrorView.{number_of}
use Rattle.pgp_auth.specs.ScramClient.{Client, fresh, awaited_of, message_of, Answers, UpdateRefused, NotShown}
use Rattle.for_c_auth.specs.Delivering.{IsLonger}

-- this is the channel binding of the number and the bytes that C hands over
abbrev pub Names : ℕ → List ℕ → Binding → Type 0
Names kind certificate b = ((kind ≡ 0) × (b ≡ Unsupported)) ⊎ (((kind ≡ 1) × (b ≡ Unrequested)) ⊎ ((kind ≡ 2) × (b ≡ TlsServerEndPoint certificate)))

-- the number is that of no channel binding
abbrev pub NamesNone : ℕ → Type 0
NamesNone kind = (kind ≢ 0) × (kind ≢ 1) × (kind ≢ 2)

-- an error's number: lack of memory is 1 as everywhere, the others follow 64
abbrev pub code_of : Refusal → ℕ
code_of OutOfMemory = 1
code_of e = 64 + number_of e

-- the place in the server's text that an error says; 0 where it says none
abbrev pub place_of : Refusal → ℕ
place_of (UnexpectedCharacter at) = at
place_of (Trailing at) = at
place_of e = 0

-- What C hands over each time: the prepared password, the channel binding and the nonce.
pub record Start : Type 0 where
  pub password : List ℕ
  pub kind : ℕ
  pub certificate : List ℕ
  pub nonce : List ℕ

-- They are these, and no mapping is asked.
abbrev pub start : List ℕ → ℕ → List ℕ → List ℕ → Start
start password kind certificate nonce = record { password = prepared (λ _. None) password; kind = kind; certificate = certificate; nonce = nonce }

-- a client that begins so
pub record Begins (s : Start) (client : Client) : Type 0 where
  pub binding : Binding
  pub named : Names s.kind s.certificate binding
  pub is : client ≡ fresh s.password binding s.nonce

-- a text with which a client that begins so begins the exchange
pub record FirstText (s : Start) (text : List ℕ) : Type 0 where
  pub binding : Binding
  pub named : Names s.kind s.certificate binding
  pub is : text ≡ client_first binding s.nonce

-- why no client begins so: the nonce isn't text or no nonce, or the number names no binding, or an allocation failed
abbrev pub BeginRefused : Type 0 → Start → ℕ → Type 0
BeginRefused lacks s code = ((code ≡ 80) × ((¬ IsUtf8 s.nonce) ⊎ (¬ IsNonce s.nonce))) ⊎ (((code ≡ 81) × NamesNone s.kind) ⊎ ((code ≡ 1) × lacks))

-- The text is what a client that began so answers to the server's first text: a server that holds the verifier accepts it (`Answers`).
pub record AnswersIn (s : Start) (server_first text : List ℕ) : Type 0 where
  pub start : Client
  pub begins : Begins s start
  pub client : Client
  pub answers : Answers start server_first client
  pub text_is : message_of client.state ≡ Some text

-- The text is what a client that began so answers, and this is the signature that a server which holds the verifier answers to it (`Answers`).
pub record AnswersWith (s : Start) (server_first signature text : List ℕ) : Type 0 where
  pub start : Client
  pub begins : Begins s start
  pub client : Client
  pub answers : Answers start server_first client
  pub text_is : message_of client.state ≡ Some text
  pub signature_is : awaited_of client.state ≡ Some signature

-- `update` rejects the server's first text, and this is the error's number and place
pub record FirstRefused (lacks : Type 0) (s : Start) (server_first : List ℕ) (code place : ℕ) : Type 0 where
  pub start : Client
  pub begins : Begins s start
  pub after : Client
  pub refusal : Refusal
  pub refused : UpdateRefused lacks start server_first refusal after
  pub code_is : code ≡ code_of refusal
  pub place_is : place ≡ place_of refusal

-- why there is no client after the server's first text
abbrev pub NotAnswered : Type 0 → Start → List ℕ → ℕ → ℕ → Type 0
NotAnswered lacks s server_first code place = (BeginRefused lacks s code × (place ≡ 0)) ⊎ FirstRefused lacks s server_first code place

-- a client that began so and answered the server's first text
pub record HasAnswered (s : Start) (server_first : List ℕ) (client : Client) : Type 0 where
  pub start : Client
  pub begins : Begins s start
  pub answers : Answers start server_first client

-- the answer is longer than the caller's memory
pub record NoRoom (s : Start) (server_first old : List ℕ) (code place : ℕ) : Type 0 where
  pub longer : IsLonger (AnswersIn s server_first) old
  pub code_is : code ≡ 1
  pub place_is : place ≡ 0

-- the server's final text doesn't show the signature, or is rejected as a client rejects it that awaits it, and this is the error's number
-- and place
pub record ShownRefused (lacks : Type 0) (signature text : List ℕ) (code place : ℕ) : Type 0 where
  pub refusal : Refusal
  pub refused : NotShown lacks signature text refusal
  pub code_is : code ≡ code_of refusal
  pub place_is : place ≡ place_of refusal
