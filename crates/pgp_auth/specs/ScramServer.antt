-- What a server that holds a verifier makes of a client's two texts: RFC 5802, sections 3 and 5.1. It
-- knows no password, and takes all that it compares from the texts, its verifier and the channel binding.
use Rattle.std.specs.Prelude.{◌≡◌, ◌==◌, not, ℕ, List, [], ◌∷◌, ◌++◌, length}
use Rattle.std.specs.List.{AllPass}
use Rattle.sha2.specs.Sha256.{sha256}
use Rattle.pgp_base.specs.Wire.{IsBytes}
use Rattle.pgp_auth.specs.Base64.{base64}
use Rattle.pgp_auth.specs.Hmac.{mac}
use Rattle.pgp_auth.specs.IteratedKey.{xor_bytes}
use Rattle.pgp_auth.specs.Verifier.{Verifier}
use Rattle.pgp_auth.specs.ScramText.{Binding, gs2_header, binding_data, IsUserName, named_bare, without_proof, with_proof, auth_message, ServerFirst}

abbrev pub comma : ℕ
comma = 44

-- a text cut after its second comma
pub record CutAfterSecondComma (text header bare : List ℕ) : Type 0 where
  pub one : List ℕ
  pub two : List ℕ
  pub one_plain : AllPass (λ c. not (c == comma)) one
  pub two_plain : AllPass (λ c. not (c == comma)) two
  pub header_is : header ≡ one ++ comma ∷ (two ++ comma ∷ [])
  pub text_is : text ≡ header ++ bare

-- from the client's first text and its own the server knows how the final text has to begin, and the
-- text that is signed
pub record Expects (binding : Binding) (first server_first final auth : List ℕ) : Type 0 where
  pub header : List ℕ
  pub bare : List ℕ
  pub user : List ℕ
  pub client_nonce : List ℕ
  pub nonce : List ℕ
  pub more : List ℕ
  pub salt_text : List ℕ
  pub count : ℕ
  pub cut : CutAfterSecondComma first header bare
  pub header_is : header ≡ gs2_header binding
  pub user_is : IsUserName user
  pub bare_is : bare ≡ named_bare user client_nonce
  pub server_first_is : ServerFirst server_first nonce salt_text count
  pub nonce_is : nonce ≡ client_nonce ++ more
  pub final_is : final ≡ without_proof header (binding_data binding) nonce
  pub auth_is : auth ≡ auth_message bare server_first final

-- the server accepts the client's final text: the proof that it shows is a key xor a code of the text
-- that is signed, and the key's digest is the stored key
pub record Accepts (verifier : Verifier) (binding : Binding) (first server_first final : List ℕ) : Type 0 where
  pub front : List ℕ
  pub auth : List ℕ
  pub proof : List ℕ
  pub expects : Expects binding first server_first front auth
  pub final_is : final ≡ with_proof front (base64 proof)
  pub bytes : IsBytes proof
  pub len : length proof ≡ 32
  pub key : sha256 (xor_bytes proof (mac verifier.stored_key auth)) ≡ verifier.stored_key

-- the signature that the server answers: ServerSignature
pub record Signs (verifier : Verifier) (binding : Binding) (first server_first signature : List ℕ) : Type 0 where
  pub front : List ℕ
  pub auth : List ℕ
  pub expects : Expects binding first server_first front auth
  pub signature_is : signature ≡ mac verifier.server_key auth
