-- The head of a message with data of a copy.
use Rattle.std.specs.Prelude.{◌≡◌, ◌⊎◌, ℕ, ◌+◌, ◌<◌, ◌≤◌, List, ◌∷◌, ◌++◌, length, drop, None}
use Rattle.pgp_base.specs.Wire.{uint32}
use Rattle.pgp_frontend.specs.ClientMessage.{CopyData}
use Rattle.pgp_frontend.specs.Payload.{bytes_of, cause}

-- the tag `d`, and the length of what follows it
abbrev pub copy_head : ℕ → List ℕ
copy_head len = 100 ∷ uint32 (len + 4)

-- The head stands at the front of the memory, which is as it was after it. With any data of this length after the head, they are the
-- message of these data, which has no cause.
pub record SentHead (len : ℕ) (old new : List ℕ) (reported : ℕ) : Type 0 where
  pub length_is : reported ≡ 5
  pub fits : 5 ≤ length old
  pub stands : new ≡ copy_head len ++ drop 5 old
  pub message : (bytes : List ℕ) → length bytes ≡ len → (cause (CopyData bytes) ≡ None) × (bytes_of (CopyData bytes) ≡ copy_head len ++ bytes)

-- why nothing is to be sent: the memory is too short for the head, or the data are too long for one message
abbrev pub WhyNoHead : ℕ → List ℕ → ℕ → Type 0
WhyNoHead len old code = ((code ≡ 1) × (length old < 5)) ⊎ ((code ≡ 3) × (2147483643 < len))

pub record NoHead (len : ℕ) (old : List ℕ) (reported code : ℕ) : Type 0 where
  pub length_is : reported ≡ 0
  pub why : WhyNoHead len old code
