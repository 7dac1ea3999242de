-- A number that is written from its digits.
use Rattle.std.specs.Prelude.{◌≡◌, ◌⊎◌, ℕ, ℤ, ◌<◌, ◌≤◌, ◌^◌, Bool, List, length, Result, Ok, Err}
use Rattle.pgp_base.specs.Cause.{Wants}
use Rattle.pgp_base.specs.Held.{Held, ◌⊕◌, Leaves}
use Rattle.pgp_values.specs.declared.error.NumericError.{NumericError}
use Rattle.pgp_values.specs.declared.error.NumericError.TheVariants.{OutOfMemory, InvalidScale, InvalidDigit, OutOfRange}
use Rattle.pgp_values.specs.Decimal.{Decimal, finite, IsDecimal, IsDigits, numeric_bytes}

abbrev pub decimal_of : Bool → ℤ → ℕ → List ℕ → Decimal
decimal_of negative weight scale digits = record { negative = negative; weight = weight; scale = scale; digits = digits }

-- The first cause, in the order in which a reader looks, why no numeric has this scale, as many digits, or these.
abbrev pub NoDecimal : Decimal → NumericError → Type 0
NoDecimal d InvalidScale = 16383 < d.scale
NoDecimal d OutOfRange = (d.scale ≤ 16383) × (2 ^ 16 ≤ length d.digits)
NoDecimal d InvalidDigit = (d.scale ≤ 16383) × ((length d.digits < 2 ^ 16) × (IsDigits d.digits → ⊥))
NoDecimal d e = ⊥

-- What the writer of a number leaves: its bytes after the old ones; or the old bytes, where memory was refused that they need, or there is
-- no such number.
abbrev pub WritesDecimal : {K : Type 0} → Decimal → (Held K → ℕ → Type 0) → Held K → Result (Unit {0}) NumericError → Held K → Type 0
WritesDecimal d lacks old (Ok done) new = IsDecimal d × (new ≡ old ⊕ numeric_bytes (finite d))
WritesDecimal d lacks old (Err e) new = (((e ≡ OutOfMemory) × (IsDecimal d × Wants lacks old (length (numeric_bytes (finite d))))) ⊎ NoDecimal d e) × Leaves old new
