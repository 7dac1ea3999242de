-- What a client has to show, by the users that the script and the words name.
use Rattle.std.specs.Prelude.{◌≡◌, ◌≢◌, ◌⊎◌, ℕ, Bool, true, false, List, [], ◌∷◌, ◌++◌, Option, Some, None, codes, string_bytes}
use Rattle.std.specs.List.{All}
use Rattle.pgp_auth.specs.ScramServing.{Server, AwaitsFirst, Serving as Exchange}
use Rattle.pgp_auth.specs.ScramServerView.{verifier_of}
use Rattle.pgp_auth.specs.ScramStored.{Stores}
use Rattle.pgp_auth.specs.Verifier.{Verifier}
use Rattle.pgp_message.specs.BackendMessage.{Message, Authentication, AuthenticationCleartextPassword, AuthenticationMd5Password, AuthenticationSasl}
use Rattle.pgp_message_write.specs.Reply.{bytes_of, names_of}
use Rattle.pgp_session.specs.Serving.{admission, scram, scram_offer}
use Rattle.pgp_session.specs.declared.serving.Method.{Method}
use Rattle.pgp_session.specs.declared.serving.Method.TheVariants as methods
use Rattle.pgp_session.specs.declared.serving.Serving.{Serving}
use Rattle.pgp_session.specs.declared.serving.ServingPhase.{ServingPhase}
use Rattle.pgp_session.specs.declared.serving.ServingPhase.TheVariants.{AwaitsPassword, AwaitsFirst as AwaitsText, Open}
use Rattle.pgserve.specs.declared.host.Account.{Account as Held}
use Rattle.pgserve.specs.First.{IsFirst}
use Rattle.pgserve.specs.declared.user.Auth.{Auth}
use Rattle.pgserve.specs.declared.user.Auth.TheVariants.{Trust, Password, Md5, Scram, ScramPlus}
use Rattle.pgserve.specs.declared.user.User.{User}

-- What a user has to show, what is stored of it, and whether there is such a user.
pub record Account : Type 0 where
  pub auth : Auth
  pub stored : List ℕ
  pub is_known : Bool

abbrev pub seen : Held → Account
seen held = record { auth = held.auth; stored = held.verifier.now; is_known = held.is_known }

-- Where the script has users, and the words name one and what any other has to show, this is the account of a user of this name: that of
-- the script's first of the name; or none has it, and it is the words', and there is such a user where it is the one that they name.
abbrev pub IsAccount : (users : List User) (named : List ℕ) (others : Account) (name : List ℕ) → Account → Type 0
IsAccount users named others name account =
    ((user : User) × IsFirst (λ (other : User). other.name.items ≡ name) users user
    × (account.auth ≡ user.auth) × (account.stored ≡ string_bytes user.verifier) × (account.is_known ≡ true))
    ⊎ (All (λ (user : User). user.name.items ≢ name) users × (account.auth ≡ others.auth) × (account.stored ≡ others.stored)
    × (account.is_known ≡ true → name ≡ named) × (name ≡ named → account.is_known ≡ true))

-- What a proof or a password is compared with: the verifier that is stored; or of a user who isn't there a made-up one.
abbrev pub StandsFor : Account → Verifier → (is_mock : Bool) → Type 0
StandsFor account verifier is_mock = (account.is_known ≡ true → Stores account.stored verifier × (is_mock ≡ false))
    × (account.is_known ≡ false → is_mock ≡ true)

-- What the MD5 answer is compared with: the text that is stored; or of a user who isn't there an empty one, which has no answer.
abbrev pub StandsForMd5 : Account → List ℕ → Type 0
StandsForMd5 account stored = (account.is_known ≡ true → stored ≡ account.stored) × (account.is_known ≡ false → stored ≡ [])

-- an exchange that awaits the client's first text, and has the account's verifier
abbrev pub OpensFor : Account → Server → Type 0
OpensFor account server = (exchange : Exchange) × (server ≡ AwaitsFirst exchange) × StandsFor account exchange.verifier exchange.is_mock

-- an exchange of the account of a user of this name
abbrev pub OpensForUser : (users : List User) (named : List ℕ) (others : Account) (name : List ℕ) → Server → Type 0
OpensForUser users named others name server = (account : Account) × IsAccount users named others name account × OpensFor account server

abbrev pub HasExchange : {A : Type 0} (users : List User) (named : List ℕ) (others : Account) (name : List ℕ) → Method A → Type 0
HasExchange users named others name method = (server : Server) × (method ≡ methods.Exchange server) × OpensForUser users named others name server

-- ---- what is asked

-- What is asked of a user, by its account: nothing of one who is trusted; none where the client is first to choose a mechanism.
abbrev pub AsksBy : {A : Type 0} → Auth → Account → Option (Method A) → Type 0
AsksBy Trust account (Some methods.Nothing) = Unit {0}
AsksBy Password account (Some (methods.Password stored)) = StandsFor account (verifier_of stored) stored.is_mock
AsksBy Md5 account (Some (methods.Md5 salt stored)) = StandsForMd5 account stored.items
AsksBy Scram account (Some (methods.Exchange server)) = OpensFor account server
AsksBy ScramPlus account None = Unit {0}
AsksBy auth account asked = ⊥

-- the phase in which it is awaited; where nothing is, the client is logged in
abbrev pub awaits : {A : Type 0} → Method A → ServingPhase
awaits methods.Nothing = Open
awaits (methods.Password stored) = AwaitsPassword
awaits (methods.Md5 salt stored) = AwaitsPassword
awaits (methods.Exchange server) = AwaitsText

abbrev pub asked_after : {A : Type 0} → Option (Method A) → (old : Method A) → Serving A
asked_after (Some method) old = record { phase = awaits method; method = method }
asked_after None old = record { phase = AwaitsText; method = old }

-- the message by which it is asked
abbrev pub asked_by : {A : Type 0} → Method A → Message
asked_by methods.Nothing = admission
asked_by (methods.Password stored) = Authentication AuthenticationCleartextPassword
asked_by (methods.Md5 salt stored) = Authentication (AuthenticationMd5Password salt)
asked_by (methods.Exchange server) = scram_offer

-- the offer of the mechanisms, bound to the certificate and not
abbrev pub mechanisms : Message
mechanisms = Authentication (AuthenticationSasl (names_of (codes "SCRAM-SHA-256-PLUS" ∷ scram ∷ [])))

abbrev pub question : {A : Type 0} → Option (Method A) → Message
question (Some method) = asked_by method
question None = mechanisms

-- A user of this name was asked for what its account says, and for nothing else.
abbrev pub AsksUser : {A : Type 0} (users : List User) (named : List ℕ) (others : Account) (name : List ℕ)
    → (old new : Serving A) (before behind : List ℕ) → Type 0
AsksUser {A} users named others name old new before behind = (account : Account) × (asked : Option (Method A)) × IsAccount users named others name account
    × AsksBy account.auth account asked × (new ≡ asked_after asked old.method) × (behind ≡ before ++ bytes_of (question asked))
