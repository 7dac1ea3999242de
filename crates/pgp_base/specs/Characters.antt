-- Private: the bytes of a character that isn't ASCII, as table 3-7 of the Unicode standard has them.
use Rattle.std.specs.Prelude.{◌≡◌, ℕ, ◌≤◌, ◌<◌, List, length, take, IsUtf8}

-- a byte after the first of a character
abbrev pub Follows : ℕ → Type 0
Follows b = (128 ≤ b) × (b < 192)

-- C2 to DF, and one that follows
abbrev pub AreTwo : ℕ → ℕ → Type 0
AreTwo a b = (194 ≤ a) × (a < 224) × Follows b

-- E0 to EF, and two that follow: after E0 at least A0 (else the form is overlong), after ED below A0 (else it is a surrogate)
abbrev pub AreThree : ℕ → ℕ → ℕ → Type 0
AreThree a b c = (224 ≤ a) × (a < 240) × Follows b × Follows c × (a ≡ 224 → 160 ≤ b) × (a ≡ 237 → b < 160)

-- F0 to F4, and three that follow: after F0 at least 90 (else the form is overlong), after F4 below 90 (else it is past 10FFFF)
abbrev pub AreFour : ℕ → ℕ → ℕ → ℕ → Type 0
AreFour a b c d = (240 ≤ a) × (a < 245) × Follows b × Follows c × Follows d × (a ≡ 240 → 144 ≤ b) × (a ≡ 244 → b < 144)

-- the first bytes, n of them and one at least, are text
pub record BeginsText (bytes : List ℕ) (n : ℕ) : Type 0 where
  pub some : 0 < n
  pub within : n ≤ length bytes
  pub front : IsUtf8 (take n bytes)
