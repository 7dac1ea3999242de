-- Private: what a client computes for its final text.
use Rattle.std.specs.Prelude.{◌≡◌, ℕ, ◌+◌, ◌≤◌, ◌⊎◌, max, List, codes, Ok, Err}
use Rattle.sha2.specs.Sha256.{sha256}
use Rattle.pgp_auth.specs.Base64.{base64}
use Rattle.pgp_auth.specs.Hmac.{mac}
use Rattle.pgp_auth.specs.IteratedKey.{xor_bytes, salted}
use Rattle.pgp_auth.specs.ScramText.{gs2_header, binding_data, first_bare, without_proof, with_proof, auth_message}
use Rattle.pgp_auth.specs.ScramClient.{Begun, Answered}
use Rattle.pgp_auth.specs.ScramRefusal.{Refusal, OutOfMemory, Admitted}
use Rattle.pgp_auth.specs.ScramReading.{Granted, grant}

abbrev pub client_key : List ℕ → List ℕ
client_key key = mac key (codes "Client Key")

-- ClientProof
abbrev pub client_proof : List ℕ → List ℕ → List ℕ
client_proof key auth = xor_bytes (client_key key) (mac (sha256 (client_key key)) auth)

abbrev pub final_front : Begun → List ℕ → List ℕ
final_front begun nonce = without_proof (gs2_header begun.binding) (binding_data begun.binding) nonce

-- what the client returns what was granted with, and the HMACs before and after
pub record AnswersGranted (begun : Begun) (text : List ℕ) (g : Granted) (answered : Answered) (before after : ℕ) : Type 0 where
  pub key_is : answered.key ≡ salted begun.password g.salt g.count
  pub auth_is : answered.auth ≡ auth_message (first_bare begun.nonce) text (final_front begun g.nonce)
  pub final_is : answered.final ≡ with_proof (final_front begun g.nonce) (base64 (client_proof answered.key answered.auth))
  pub hmacs : after ≡ before + (max g.count 1 + 2)

pub record AnswersText (begun : Begun) (text : List ℕ) (answered : Answered) (before after : ℕ) : Type 0 where
  pub g : Granted
  pub granted : grant begun.nonce text ≡ Ok g
  pub answers : AnswersGranted begun text g answered before after

pub record MadeGranted (client_nonce text : List ℕ) (before after : ℕ) : Type 0 where
  pub g : Granted
  pub granted : grant client_nonce text ≡ Ok g
  pub grows : before ≤ after
  pub at_most : after ≤ before + (max g.count 1 + 2)

-- memory was refused, before or after HMACs; or the text is refused, before them
abbrev pub RefusesText : Type 0 → List ℕ → List ℕ → Refusal → ℕ → ℕ → Type 0
RefusesText lacks client_nonce text e before after =
    ((e ≡ OutOfMemory) × lacks × Admitted client_nonce text × ((after ≡ before) ⊎ MadeGranted client_nonce text before after)) ⊎ ((grant client_nonce text ≡ Err e) × (after ≡ before))
