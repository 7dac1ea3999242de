-- Private: reading the parts of an array from the left, as the code does it.
use Rattle.std.specs.Prelude.{ℕ, ℤ, ◌*◌, List, Option, Result, Ok, nat_le}
use Rattle.std.specs.Int.{w32, from_be_bytes, cast_signed}
use Rattle.pgp_base.specs.declared.error.Error.{Error}
use Rattle.pgp_base.specs.declared.error.Error.TheVariants.{InvalidCount, InvalidValueLength, InvalidDimension, TooManyElements}
use Rattle.pgp_types.specs.declared.array.ArrayDimension.{ArrayDimension}
use Rattle.pgp_types.specs.PartReading.{Reader, and_then, fixed_at, natural_at, nullable_at, only_at, then_at}

abbrev pub int32_at : Reader ℤ
int32_at = fixed_at (λ l. cast_signed w32 (from_be_bytes w32 l)) 4

abbrev pub oid_at : Reader ℕ
oid_at = fixed_at (λ l. from_be_bytes w32 l) 4

abbrev pub head_at : Reader (ℕ × (ℤ × ℕ))
head_at = then_at (natural_at InvalidCount) (then_at int32_at oid_at)

-- a dimension after others whose product is p
abbrev pub dimension_at : ℕ → Reader (ℕ × ℤ)
dimension_at p = only_at (λ d. nat_le (p * d.0) 2147483647) TooManyElements (then_at (natural_at InvalidDimension) int32_at)

-- the product with it
abbrev pub product_of : ℕ → ℕ × ℤ → List ℕ → Result (ℕ × List ℕ) Error
product_of p d rest = Ok (p * d.0, rest)

unfoldable pub product_at : ℕ → Reader ℕ
product_at p bytes = and_then (dimension_at p bytes) (product_of p)

abbrev pub as_dimension : ℤ → ℤ → List ℕ → Result (ArrayDimension × List ℕ) Error
as_dimension len lower_bound rest = Ok (record { len = len; lower_bound = lower_bound }, rest)

-- a dimension that was read before
unfoldable pub each_at : Reader ArrayDimension
each_at bytes = and_then (int32_at bytes) (λ len rest. and_then (int32_at rest) (as_dimension len))

-- an element
abbrev pub element_at : Reader (Option (List ℕ))
element_at = nullable_at InvalidValueLength
