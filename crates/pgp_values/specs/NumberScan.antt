-- Private: what the steps of reading a text find, and where each stops.
use Rattle.std.specs.Prelude.{◌≡◌, ◌⊎◌, ℕ, ◌≤◌, Bool, List, [], ◌∷◌, ◌++◌, Option, Some, None, ⊤}
use Rattle.std.specs.List.{AllByRecursion}
use Rattle.pgp_values.specs.declared.error.NumericError.{NumericError}
use Rattle.pgp_values.specs.declared.error.NumericError.TheVariants.{InvalidText, OutOfRange}
use Rattle.pgp_values.specs.Decimal.{Numeric}
use Rattle.pgp_values.specs.NumberMeaning.{limit}
use Rattle.pgp_values.specs.NumberText.{IsBlank, IsDigit, SignText, PointText, MarkedText, RaisedText, ExponentText, NumberText, SpecialText}

-- no such byte stands at the front
abbrev pub NotAt : (ℕ → Type 0) → List ℕ → Type 0
NotAt P [] = ⊤
NotAt P (b ∷ bs) = P b → ⊥

-- no such byte stands at the end
abbrev pub NotEnd : (ℕ → Type 0) → List ℕ → Type 0
NotEnd P [] = ⊤
NotEnd P (b ∷ []) = P b → ⊥
NotEnd P (b ∷ e ∷ bs) = NotEnd P (e ∷ bs)

-- the byte at the front and what stands after it, or another
abbrev pub Behind : ℕ → List ℕ → Option (List ℕ) → Type 0
Behind mark bytes (Some rest) = bytes ≡ mark ∷ rest
Behind mark bytes None = NotAt (λ b. b ≡ mark) bytes

-- the longest front of such bytes, and the rest
pub record Front (P : ℕ → Type 0) (bytes front rest : List ℕ) : Type 0 where
  pub are : AllByRecursion P front
  pub stops : NotAt P rest
  pub all : bytes ≡ front ++ rest

-- a text without the blanks around it
pub record Trimmed (text inside : List ℕ) : Type 0 where
  pub before : List ℕ
  pub front : List ℕ
  pub after : List ℕ
  pub begins : Front IsBlank text before front
  pub are : AllByRecursion IsBlank after
  pub all : front ≡ inside ++ after
  pub stops : NotEnd IsBlank inside

abbrev pub IsSign : ℕ → Type 0
IsSign b = (b ≡ 43) ⊎ (b ≡ 45)

-- the sign at the front
pub record SignFront (bytes : List ℕ) (negative : Bool) (rest : List ℕ) : Type 0 where
  pub sign : List ℕ
  pub signed : SignText negative sign
  pub stops : sign ≡ [] → NotAt IsSign rest
  pub all : bytes ≡ sign ++ rest

-- the digits after a point at the front
pub record PointFront (bytes fraction rest : List ℕ) : Type 0 where
  pub point : List ℕ
  pub pointed : PointText fraction point
  pub are : AllByRecursion IsDigit fraction
  pub none : point ≡ [] → NotAt (λ b. b ≡ 46) rest
  pub stops : point ≡ 46 ∷ fraction → NotAt IsDigit rest
  pub all : bytes ≡ point ++ rest

-- Why there is no such text.

abbrev pub MarkedRefused : List ℕ → NumericError → Type 0
MarkedRefused bytes InvalidText = (divided : Bool) (exponent : ℕ) → MarkedText divided exponent bytes → ⊥
MarkedRefused bytes OutOfRange = (divided : Bool) × (exponent : ℕ) × MarkedText divided exponent bytes × (limit ≤ exponent)
MarkedRefused bytes e = ⊥

abbrev pub RaisedRefused : List ℕ → NumericError → Type 0
RaisedRefused bytes InvalidText = (divided : Bool) (exponent : ℕ) → RaisedText divided exponent bytes → ⊥
RaisedRefused bytes OutOfRange = (divided : Bool) × (exponent : ℕ) × RaisedText divided exponent bytes × (limit ≤ exponent)
RaisedRefused bytes e = ⊥

abbrev pub ExponentRefused : List ℕ → NumericError → Type 0
ExponentRefused bytes InvalidText = (divided : Bool) (exponent : ℕ) → ExponentText divided exponent bytes → ⊥
ExponentRefused bytes OutOfRange = (divided : Bool) × (exponent : ℕ) × ExponentText divided exponent bytes × (limit ≤ exponent)
ExponentRefused bytes e = ⊥

abbrev pub WrittenRefused : List ℕ → NumericError → Type 0
WrittenRefused bytes InvalidText = (negative : Bool) (whole fraction : List ℕ) (divided : Bool) (exponent : ℕ) → NumberText bytes negative whole fraction divided exponent → ⊥
WrittenRefused bytes OutOfRange = (negative : Bool) × (whole : List ℕ) × (fraction : List ℕ) × (divided : Bool) × (exponent : ℕ) × NumberText bytes negative whole fraction divided exponent × (limit ≤ exponent)
WrittenRefused bytes e = ⊥

-- what is no number, if the bytes name it
abbrev pub Special : List ℕ → Option Numeric → Type 0
Special bytes (Some v) = SpecialText bytes v
Special bytes None = (v : Numeric) → SpecialText bytes v → ⊥
