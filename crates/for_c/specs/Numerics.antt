-- The parts of a numeric, as C has them.
use Rattle.std.specs.Prelude.{◌≡◌, ℕ, pos, false, List, length, drop, Ok, ⊤}
use Rattle.std.specs.List.{flat_map}
use Rattle.pgp_base.specs.Wire.{uint16}
use Rattle.pgp_values.specs.Decimal.{Decimal, Numeric, finite, nan, plus_infinity, minus_infinity, NumericReads}
use Rattle.pgp_values.specs.DecimalDigits.{NoDecimal}
use Rattle.pgp_values.specs.declared.error.NumericError.{NumericError}
use Rattle.for_c.specs.Further.{numeric_number}
use Rattle.for_c.specs.declared.numeric.PgpNumeric.{PgpNumeric}

-- what has no end has a kind and no digits
abbrev pub endless : ℕ → PgpNumeric
endless kind = record { digits = 8; weight = pos 0; scale = 0; count = 0; kind = kind; negative = false }

-- the kind of a numeric and its numbers; its digits, if it has any, begin with the ninth byte
abbrev pub parts_of : Numeric → PgpNumeric
parts_of (finite d) = record { digits = 8; weight = d.weight; scale = d.scale; count = length d.digits; kind = 0; negative = d.negative }
parts_of nan = endless 1
parts_of plus_infinity = endless 2
parts_of minus_infinity = endless 3

-- the digits of a number with an end stand from this place on, and nothing after them
abbrev pub HasDigits : List ℕ → ℕ → Numeric → Type 0
HasDigits bytes at (finite d) = drop at bytes ≡ flat_map uint16 d.digits
HasDigits bytes at nan = ⊤
HasDigits bytes at plus_infinity = ⊤
HasDigits bytes at minus_infinity = ⊤

-- the bytes are this numeric, whose parts these are
pub record HasParts (bytes : List ℕ) (x : Numeric) (p : PgpNumeric) : Type 0 where
  pub reads : NumericReads bytes (Ok x)
  pub parts : p ≡ parts_of x
  pub digits : HasDigits bytes p.digits x

-- why no numeric is written of parts
abbrev pub IsNoDecimal : Decimal → ℕ → Type 0
IsNoDecimal d code = (e : NumericError) × NoDecimal d e × (code ≡ numeric_number e)
