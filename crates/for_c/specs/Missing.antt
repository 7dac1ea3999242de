-- How many bytes are missing to a complete message.
use Rattle.std.specs.Prelude.{◌≡◌, ◌⊎◌, ℕ, ◌+◌, ◌<◌, ◌^◌, List, ◌++◌, length}
use Rattle.pgp_base.specs.Wire.{uint32}

-- After so many bytes a length stands, which counts all from its own four bytes on; some of these are missing.
pub record Announces (at : ℕ) (bytes : List ℕ) (missing : ℕ) : Type 0 where
  pub front : List ℕ
  pub rest : List ℕ
  pub len : ℕ
  pub place : length front ≡ at
  pub fits : len < 2 ^ 32
  pub parts : bytes ≡ front ++ uint32 len ++ rest
  pub sum : length bytes + missing ≡ at + len
  pub some : 0 < missing

-- The length isn't complete, and 0 is reported; or so many bytes are missing.
abbrev pub IsMissing : ℕ → List ℕ → ℕ → Type 0
IsMissing at bytes missing = ((length bytes < at + 4) × (missing ≡ 0)) ⊎ Announces at bytes missing
