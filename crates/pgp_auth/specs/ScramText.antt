-- The texts of SCRAM-SHA-256: RFC 5802, section 7, with the channel bindings of its section 6. Of the
-- RFC's texts these have no authorization identity and no extensions, as in PostgreSQL, whose clients send
-- an empty user name.
use Rattle.std.specs.Prelude.{◌≡◌, ℕ, ◌+◌, ◌-◌, ◌*◌, ◌<◌, ◌^◌, nat_le, ◌==◌, ◌&&◌, ◌||◌, Bool, true, not, List, [], ◌∷◌, ◌++◌, length, codes}
use Rattle.std.specs.List.{AllPass}
use Rattle.std.specs.Str.{IsUtf8}
use Rattle.pgp_auth.specs.Base64.{base64}

-- a number from `low` to `high`
abbrev pub is_between : ℕ → ℕ → ℕ → Bool
is_between low high c = nat_le low c && nat_le c high

-- the RFC's `printable`: ASCII from `!` to `~`, without the comma
abbrev pub is_nonce_char : ℕ → Bool
is_nonce_char c = is_between 0x21 0x2b c || is_between 0x2d 0x7e c

-- the characters of base64, the padding's too: a-z A-Z 0-9 / + =
abbrev pub is_base64_char : ℕ → Bool
is_base64_char c = is_between 97 122 c || is_between 65 90 c || is_between 48 57 c || (c == 47) || (c == 43) || (c == 61)

abbrev pub is_digit : ℕ → Bool
is_digit c = is_between 48 57 c

-- the RFC's value-safe-char, without its limit to UTF-8: all but 0, the comma and `=`
abbrev pub is_value_char : ℕ → Bool
is_value_char c = not (c == 0 || c == 44 || c == 61)

-- the characters of an attribute's value: no comma, which ends it
abbrev pub is_attribute_char : ℕ → Bool
is_attribute_char c = not (c == 44)

abbrev pub IsNonce : List ℕ → Type 0
IsNonce text = (0 < length text) × AllPass is_nonce_char text

-- the RFC's saslname, without its limit to UTF-8, or nothing: a comma is written `=2C` in it, and `=` is `=3D`
pub data SaslName : List ℕ → Type 0 where
  no_more : SaslName []
  itself : {c : ℕ} {name : List ℕ} → is_value_char c ≡ true → SaslName name → SaslName (c ∷ name)
  comma : {name : List ℕ} → SaslName name → SaslName (codes "=2C" ++ name)
  equals : {name : List ℕ} → SaslName name → SaslName (codes "=3D" ++ name)

-- a user's name in a client's first text; the empty one too
pub record IsUserName (name : List ℕ) : Type 0 where
  pub utf8 : IsUtf8 name
  pub spelled : SaslName name

-- what a client says of channel binding: it can't, it can but the server didn't offer it, or it binds
-- to the server's certificate, by the certificate's hash
pub data Binding : Type 0 where
  Unsupported : Binding
  Unrequested : Binding
  TlsServerEndPoint : List ℕ → Binding

-- gs2-header
abbrev pub gs2_header : Binding → List ℕ
gs2_header Unsupported = codes "n,,"
gs2_header Unrequested = codes "y,,"
gs2_header (TlsServerEndPoint signature) = codes "p=tls-server-end-point,,"

-- cbind-data
abbrev pub binding_data : Binding → List ℕ
binding_data Unsupported = []
binding_data Unrequested = []
binding_data (TlsServerEndPoint signature) = signature

-- client-first-message-bare
abbrev pub named_bare : List ℕ → List ℕ → List ℕ
named_bare user nonce = codes "n=" ++ (user ++ (codes ",r=" ++ nonce))

-- with the empty user name
abbrev pub first_bare : List ℕ → List ℕ
first_bare nonce = codes "n=,r=" ++ nonce

-- client-first-message
abbrev pub named_first : Binding → List ℕ → List ℕ → List ℕ
named_first binding user nonce = gs2_header binding ++ named_bare user nonce

-- with the empty user name
abbrev pub client_first : Binding → List ℕ → List ℕ
client_first binding nonce = gs2_header binding ++ first_bare nonce

-- client-final-message-without-proof
abbrev pub without_proof : List ℕ → List ℕ → List ℕ → List ℕ
without_proof header data_ nonce = codes "c=" ++ base64 (header ++ data_) ++ codes ",r=" ++ nonce

-- client-final-message
abbrev pub with_proof : List ℕ → List ℕ → List ℕ
with_proof text proof_text = text ++ codes ",p=" ++ proof_text

-- AuthMessage
abbrev pub auth_message : List ℕ → List ℕ → List ℕ → List ℕ
auth_message bare server_first final = bare ++ codes "," ++ server_first ++ codes "," ++ final

-- the number that digits name after those that name n
unfoldable pub number_from : ℕ → List ℕ → ℕ
number_from n [] = n
number_from n (digit ∷ digits) = number_from (n * 10 + (digit - 48)) digits

abbrev pub number : List ℕ → ℕ
number = number_from 0

-- at least one digit, and a number of 32 bits
pub record NamesCount (digits : List ℕ) (count : ℕ) : Type 0 where
  pub some : 0 < length digits
  pub count_is : number digits ≡ count
  pub fits : count < 2 ^ 32

-- server-first-message
pub record ServerFirst (text nonce salt_text : List ℕ) (count : ℕ) : Type 0 where
  pub digits : List ℕ
  pub text_is : text ≡ codes "r=" ++ (nonce ++ (codes ",s=" ++ (salt_text ++ (codes ",i=" ++ digits))))
  pub nonce_chars : AllPass is_nonce_char nonce
  pub salt_chars : AllPass is_base64_char salt_text
  pub digit_chars : AllPass is_digit digits
  pub names : NamesCount digits count

-- server-final-message with a verifier: base64 text that shows these bytes
pub record ServerFinal (text shown : List ℕ) : Type 0 where
  pub text_is : text ≡ codes "v=" ++ shown
  pub chars : AllPass is_base64_char shown
