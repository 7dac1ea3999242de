-- A server that has no verifier of a user answers as one that has: what PostgreSQL calls mock authentication.
use Rattle.std.specs.Prelude.{◌≡◌, ◌≢◌, false, List, ℕ}
use Rattle.sha2.specs.Sha256.{sha256}
use Rattle.pgp_auth.specs.Base64.{Shows}
use Rattle.pgp_auth.specs.Hmac.{mac}
use Rattle.pgp_auth.specs.IteratedKey.{xor_bytes}
use Rattle.pgp_auth.specs.ScramText.{with_proof}
use Rattle.pgp_auth.specs.ScramServing.{Challenge, ExpectsOf}

-- the same challenge, where there is a verifier with this salt and count, and with these keys
abbrev pub as_known : Challenge → List ℕ → List ℕ → Challenge
as_known c stored_key server_key = record {
  verifier = record { salt = c.verifier.salt; count = c.verifier.count; stored_key = stored_key; server_key = server_key };
  is_mock = false;
  binding = c.binding;
  user = c.user;
  nonce = c.nonce;
  own = c.own;
}

-- the final text shows no proof of the key that has this digest
abbrev pub ShowsNoProof : Challenge → List ℕ → List ℕ → Type 0
ShowsNoProof c text stored_key = (front auth shown proof : List ℕ) → ExpectsOf c front auth → text ≡ with_proof front shown → Shows shown proof
    → sha256 (xor_bytes proof (mac stored_key auth)) ≢ stored_key
