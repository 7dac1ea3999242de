-- Private: the place of a value that ends at some place.
use Rattle.std.specs.Prelude.{ℕ, ℤ, ◌-◌, List, length, Option, Some, None, true, false}
use Rattle.pgp_types.specs.ArrayReading.{int32_at}
use Rattle.pgp_types.specs.PartReading.{Reader, then_at}
use Rattle.pgp_types.specs.Range.{Side}
use Rattle.pgp_types.specs.declared.range.RangeBound.TheVariants.{Inclusive, Exclusive, Unbounded}
use Rattle.for_c.specs.declared.range.PgpBound.{PgpBound}
use Rattle.for_c.specs.declared.row.PgpColumn.{PgpColumn}

abbrev pub column_before : Option (List ℕ) → ℕ → PgpColumn
column_before None end = record { start = 0; end = 0; is_null = true }
column_before (Some v) end = record { start = end - length v; end = end; is_null = false }

abbrev pub value_length : Option (List ℕ) → ℕ
value_length None = 0
value_length (Some v) = length v

-- the side of a range whose value ends at this place
abbrev pub bound_before : Side → ℕ → PgpBound
bound_before Unbounded end = record { value = column_before None end; kind = 0 }
bound_before (Inclusive v) end = record { value = column_before v end; kind = 1 }
bound_before (Exclusive v) end = record { value = column_before v end; kind = 2 }

abbrev pub side_length : Side → ℕ
side_length Unbounded = 0
side_length (Inclusive v) = value_length v
side_length (Exclusive v) = value_length v

-- a dimension of an array, read from the left
abbrev pub dimension_at : Reader (ℤ × ℤ)
dimension_at = then_at int32_at int32_at
