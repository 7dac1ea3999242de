-- What a server asks of a client that logs in. PostgreSQL manual, "Message Flow": "Start-up"; "SASL Authentication".
use Rattle.std.specs.Prelude.{ℕ, List, Contains, None}
use Rattle.pgp_message.specs.BackendMessage.{Message, Authentication, AuthenticationOk, AuthenticationCleartextPassword, AuthenticationMd5Password, AuthenticationSasl, AuthenticationSaslContinue, AuthenticationSaslFinal}
use Rattle.pgp_base.specs.Items.{MarkedItems}
use Rattle.pgp_message.specs.Items.{TextSpelled, TextRefused}

-- what a message asks of a client that logs in
pub data Asking : Type 0 where
  Nothing : Asking
  Cleartext : Asking
  Md5 : (salt : List ℕ) → Asking
  Sasl : (mechanisms : List ℕ) → Asking
  First : (text : List ℕ) → Asking
  Final : (text : List ℕ) → Asking
  Welcome : Asking
  -- another way
  Other : Asking

abbrev pub asking : Message → Asking
asking (Authentication AuthenticationOk) = Welcome
asking (Authentication AuthenticationCleartextPassword) = Cleartext
asking (Authentication (AuthenticationMd5Password salt)) = Md5 salt
asking (Authentication (AuthenticationSasl mechanisms)) = Sasl mechanisms
asking (Authentication (AuthenticationSaslContinue text)) = First text
asking (Authentication (AuthenticationSaslFinal text)) = Final text
asking (Authentication request) = Other
asking m = Nothing

-- the list of mechanisms ends well, and this is one of them
abbrev pub Lists : List ℕ → List ℕ → Type 0
Lists name mechanisms = (names : List (List ℕ)) × MarkedItems TextSpelled TextRefused mechanisms names None × Contains names name
