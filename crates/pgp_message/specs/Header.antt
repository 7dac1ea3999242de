-- The header of a frame by itself: its tag, and its length as an Int32.
use Rattle.std.specs.Prelude.{FitsSigned, ◌≡◌, ℕ, ℤ, pos, ◌<◌, ◌<ℤ◌, ◌≤ℤ◌, List, ◌∷◌, ◌++◌, length, Option, Some, None, Result, Ok, Err}
use Rattle.std.specs.Int.{w32}
use Rattle.pgp_base.specs.declared.error.Error.{Error}
use Rattle.pgp_base.specs.declared.error.Error.TheVariants.{InvalidLength}
use Rattle.pgp_base.specs.Wire.{int32}

pub record HeaderPart : Type 0 where
  pub tag : ℕ
  pub len : ℤ

-- the bytes begin with this header
pub record IsHeader (bytes : List ℕ) (header : HeaderPart) : Type 0 where
  pub rest : List ℕ
  pub fits : FitsSigned w32 header.len
  pub parts : bytes ≡ header.tag ∷ int32 header.len ++ rest

-- What stands at the front of the bytes: too few for a header, a header, or one whose length doesn't count itself.
abbrev pub ReadsHeader : List ℕ → Result (Option HeaderPart) Error → Type 0
ReadsHeader bytes (Ok None) = length bytes < 5
ReadsHeader bytes (Ok (Some header)) = IsHeader bytes header × (pos 4 ≤ℤ header.len)
ReadsHeader bytes (Err InvalidLength) = (header : HeaderPart) × IsHeader bytes header × (header.len <ℤ pos 4)
ReadsHeader bytes (Err e) = ⊥
