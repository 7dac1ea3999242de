-- Private: numbers of many digits, by which a fraction that is shown with an exponent is rounded.
use Rattle.std.specs.Prelude.{◌≡◌, ℕ, ◌+◌, ◌*◌, ◌^◌, ◌<◌, ◌≤◌, Bool, true, false, List, [], ◌∷◌, ◌++◌, codes}
use Rattle.pgp_value_text.specs.declared.size.Exponent.{Exponent}
use Rattle.pgp_value_text.specs.declared.size.Exponent.TheVariants.{Plain, Up, Down}
use Rattle.pgp_value_text.specs.declared.size.Shown.{Shown}
use Rattle.pgp_value_text.specs.Float.{exponent_text, trimmed}
use lib.Ieee.Nearest.{closest}

-- the number that has these limbs, digits to the base 10^9, of which the least stands first
abbrev pub value_of : List ℕ → ℕ
value_of [] = 0
value_of (x ∷ xs) = x + 1_000_000_000 * value_of xs

-- What a number begins with, whether another digit than 0 follows, and how many limbs follow: none, or it begins with 19 decimal digits.
pub record BeginsWith (number : ℕ) (more : Bool) (limbs value : ℕ) : Type 0 where
  pub rest : ℕ
  pub whole : value ≡ number * 1_000_000_000 ^ limbs + rest
  pub below : rest < 1_000_000_000 ^ limbs
  pub some : more ≡ true → 0 < rest
  pub none : more ≡ false → rest ≡ 0
  pub full : number < 10 ^ 18 → (limbs ≡ 0) × (more ≡ false)
  pub small : number < 10 ^ 27

-- the half of a number, rounded to the least power of ten of which it is a number of no more than so many digits, but for the first one
pub record IsHalfCut (digits doubled number tens : ℕ) : Type 0 where
  pub some : 0 < tens
  pub is : number ≡ closest doubled (2 * 10 ^ tens)
  pub fits : number < 10 ^ digits
  pub fewest : (k : ℕ) → 0 < k → k < tens → 10 ^ digits ≤ closest doubled (2 * 10 ^ k)

-- a number so, to any power of ten
pub record IsCut (digits value number tens : ℕ) : Type 0 where
  pub some : 0 < tens
  pub is : number ≡ closest value (10 ^ tens)
  pub fits : number < 10 ^ digits
  pub fewest : (k : ℕ) → k < tens → 10 ^ digits ≤ closest value (10 ^ k)

abbrev pub exponent_part : Exponent → List ℕ
exponent_part Plain = []
exponent_part (Up n) = codes "e+" ++ exponent_text n
exponent_part (Down n) = codes "e-" ++ exponent_text n

abbrev pub shown_text : Shown → List ℕ
shown_text x = trimmed x.digits.places x.digits.number ++ exponent_part x.exponent
