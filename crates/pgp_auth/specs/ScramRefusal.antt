-- Why a client refuses a server's text. The causes are in order: each stands with the conditions under
-- which none comes before it. Lack of memory isn't one of them.
use Rattle.std.specs.Prelude.{◌≡◌, ◌≢◌, ℕ, ◌-◌, ◌<◌, ◌≤◌, List, [], ◌∷◌, ◌++◌, length, codes, max}
use Rattle.std.specs.List.{AllPass}
use Rattle.std.specs.Str.{IsUtf8}
use Rattle.pgp_auth.specs.Base64.{Shows}
use Rattle.pgp_auth.specs.Pattern.{Part, Run, word, Begins, Leaves}
use Rattle.pgp_auth.specs.ScramText.{is_nonce_char, is_base64_char, is_digit, is_value_char, NamesCount, ServerFirst, ServerFinal}

pub data Refusal : Type 0 where
  OutOfMemory : Refusal
  WrongState : Refusal
  NotUtf8 : Refusal
  UnexpectedEnd : Refusal
  UnexpectedCharacter : ℕ → Refusal
  Trailing : ℕ → Refusal
  InvalidNumber : Refusal
  InvalidNonce : Refusal
  TooManyIterations : Refusal
  InvalidBase64 : Refusal
  Server : List ℕ → Refusal
  Verification : Refusal

-- the place in a text at which the rest of it begins
abbrev pub place : List ℕ → List ℕ → ℕ
place text rest = length text - length rest

-- another character stands there, or none
abbrev pub unexpected : ℕ → List ℕ → Refusal
unexpected at [] = UnexpectedEnd
unexpected at (c ∷ rest) = UnexpectedCharacter at

abbrev pub server_first_parts : List Part
server_first_parts = word (codes "r=") ++ (Run is_nonce_char ∷ (word (codes ",s=") ++ (Run is_base64_char ∷ (word (codes ",i=") ++ Run is_digit ∷ []))))

-- a server's first text with the client's own nonce at the front of the server's, and not too many rounds,
-- whatever its salt
pub record Admitted (client_nonce text : List ℕ) : Type 0 where
  pub nonce : List ℕ
  pub salt_text : List ℕ
  pub count : ℕ
  pub more : List ℕ
  pub text_is : ServerFirst text nonce salt_text count
  pub nonce_is : nonce ≡ client_nonce ++ more
  pub few : count ≤ 100000

-- what a client asks of the server's first text: its own nonce at the front of the server's, a salt, and
-- not too many rounds
pub record Meets (client_nonce text nonce salt : List ℕ) (count : ℕ) : Type 0 where
  pub salt_text : List ℕ
  pub more : List ℕ
  pub text_is : ServerFirst text nonce salt_text count
  pub nonce_is : nonce ≡ client_nonce ++ more
  pub few : count ≤ 100000
  pub shows : Shows salt_text salt

-- a server's first text that asks for fewer rounds than these, or for none
pub record AsksFewer (least : ℕ) (text : List ℕ) : Type 0 where
  pub nonce : List ℕ
  pub salt_text : List ℕ
  pub count : ℕ
  pub text_is : ServerFirst text nonce salt_text count
  pub fewer : count < max least 1

-- why a client with this nonce rejects a server's first text
pub data RefusesFirst (client_nonce text : List ℕ) : Refusal → Type 0 where
  not_utf8 : ¬ IsUtf8 text → RefusesFirst client_nonce text NotUtf8
  other : {rest : List ℕ} → IsUtf8 text → Leaves server_first_parts text rest
      → RefusesFirst client_nonce text (unexpected (place text rest) rest)
  no_number : {nonce salt_text digits rest : List ℕ} → IsUtf8 text
      → Begins server_first_parts text (nonce ∷ salt_text ∷ digits ∷ []) rest → ((count : ℕ) → ¬ NamesCount digits count)
      → RefusesFirst client_nonce text InvalidNumber
  trailing : {nonce salt_text digits rest : List ℕ} {count : ℕ} → IsUtf8 text
      → Begins server_first_parts text (nonce ∷ salt_text ∷ digits ∷ []) rest → NamesCount digits count → rest ≢ []
      → RefusesFirst client_nonce text (Trailing (place text rest))
  other_nonce : {nonce salt_text : List ℕ} {count : ℕ} → ServerFirst text nonce salt_text count
      → ((more : List ℕ) → nonce ≢ client_nonce ++ more) → RefusesFirst client_nonce text InvalidNonce
  too_many : {nonce salt_text : List ℕ} {count : ℕ} (more : List ℕ) → ServerFirst text nonce salt_text count
      → nonce ≡ client_nonce ++ more → 100000 < count → RefusesFirst client_nonce text TooManyIterations
  no_salt : {nonce salt_text : List ℕ} {count : ℕ} (more : List ℕ) → ServerFirst text nonce salt_text count
      → nonce ≡ client_nonce ++ more → count ≤ 100000 → ((salt : List ℕ) → ¬ Shows salt_text salt)
      → RefusesFirst client_nonce text InvalidBase64

abbrev pub error_parts : List Part
error_parts = word (codes "e=") ++ Run is_value_char ∷ []

abbrev pub server_final_parts : List Part
server_final_parts = word (codes "v=") ++ Run is_base64_char ∷ []

-- a server's final text that is an error
pub record IsServerError (text reason : List ℕ) : Type 0 where
  pub text_is : text ≡ codes "e=" ++ reason
  pub utf8 : IsUtf8 text
  pub chars : AllPass is_value_char reason

-- the form of a server's final text: an error, where it begins with `e`, else a verifier
pub data FinalForm : List ℕ → List Part → Type 0 where
  error : {text : List ℕ} → FinalForm (101 ∷ text) error_parts
  verifier : {text : List ℕ} → ((rest : List ℕ) → text ≢ 101 ∷ rest) → FinalForm text server_final_parts

-- why a client rejects a server's final text, whatever signature it awaits
pub data RefusesFinal (text : List ℕ) : Refusal → Type 0 where
  not_utf8 : ¬ IsUtf8 text → RefusesFinal text NotUtf8
  other : {parts : List Part} {rest : List ℕ} → IsUtf8 text → FinalForm text parts → Leaves parts text rest
      → RefusesFinal text (unexpected (place text rest) rest)
  trailing : {parts : List Part} {runs : List (List ℕ)} {rest : List ℕ} → IsUtf8 text → FinalForm text parts → Begins parts text runs rest
      → rest ≢ [] → RefusesFinal text (Trailing (place text rest))
  server : {reason : List ℕ} → IsServerError text reason → RefusesFinal text (Server reason)
  no_base64 : {shown : List ℕ} → ServerFinal text shown → ((bytes : List ℕ) → ¬ Shows shown bytes)
      → RefusesFinal text InvalidBase64

-- a server's final text that shows the signature
pub record Verifies (signature text : List ℕ) : Type 0 where
  pub shown : List ℕ
  pub text_is : ServerFinal text shown
  pub shows : Shows shown signature

-- one that shows other bytes
pub record ShowsOther (signature text : List ℕ) : Type 0 where
  pub shown : List ℕ
  pub bytes : List ℕ
  pub text_is : ServerFinal text shown
  pub shows : Shows shown bytes
  pub differs : bytes ≢ signature
