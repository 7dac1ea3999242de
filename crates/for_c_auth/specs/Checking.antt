-- Checks of a password against a stored verifier of SCRAM-SHA-256.
use Rattle.std.specs.Prelude.{◌≡◌, ◌≢◌, ◌⊎◌, ℕ, List}
use Rattle.pgp_auth.specs.ScramStored.{NotStored, Stores}
use Rattle.pgp_auth.specs.Verifier.{Verifier, verifier}
use Rattle.pgp_auth.specs.declared.scram.server_error.VerifierError.{VerifierError}
use Rattle.for_c_auth.specs.Serving.{stored_code}

-- The text stores the verifier that its salt and count make of the password, and it stores another.
pub record IsStored (text password : List ℕ) : Type 0 where
  pub stored : Verifier
  pub stores : Stores text stored
  pub same : stored ≡ verifier password stored.salt stored.count

pub record IsOther (text password : List ℕ) : Type 0 where
  pub stored : Verifier
  pub stores : Stores text stored
  pub other : stored ≢ verifier password stored.salt stored.count

-- the text stores none, or an allocation failed
abbrev pub NotChecked : Type 0 → List ℕ → ℕ → Type 0
NotChecked lacks text code = ((e : VerifierError) × NotStored lacks text e × (code ≡ stored_code e)) ⊎ ((code ≡ 1) × lacks)
