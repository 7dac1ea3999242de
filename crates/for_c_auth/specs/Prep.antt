-- The password that a server uses.
use Rattle.std.specs.Prelude.{◌≡◌, ◌⊎◌, ℕ, List, unwrap_or}
use Rattle.std.specs.Str.{IsUtf8}
use Rattle.pgp_saslprep.specs.SaslPrep.{prepared_bytes}

-- as RFC 4013 prepares it; as it is where it isn't text, or the RFC rejects it
abbrev pub IsUsed : List ℕ → List ℕ → Type 0
IsUsed password text = (IsUtf8 password × (text ≡ unwrap_or (prepared_bytes password) password)) ⊎ ((IsUtf8 password → ⊥) × (text ≡ password))
