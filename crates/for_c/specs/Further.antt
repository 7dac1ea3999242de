-- Spans, times with a zone, and decimal numbers, as C has them.
use Rattle.std.specs.Prelude.{◌≡◌, ◌⊎◌, ℕ, List, Err}
use Rattle.std.specs.Str.{IsUtf8}
use Rattle.pgp_values.specs.Decimal.{NumericReads}
use Rattle.pgp_values.specs.NumberMeaning.{TextRefused}
use Rattle.pgp_values.specs.declared.error.NumericError.{NumericError}
use Rattle.pgp_values.specs.declared.error.NumericError.TheVariants as errors
use Rattle.pgp_values.specs.declared.time.Interval.{Interval}
use Rattle.pgp_values.specs.declared.time.TimeTz.{TimeTz}
use Rattle.for_c.specs.declared.span.PgpInterval.{PgpInterval}
use Rattle.for_c.specs.declared.span.PgpTimetz.{PgpTimetz}

abbrev pub interval_of : PgpInterval → Interval
interval_of v = record { microseconds = v.microseconds; days = v.days; months = v.months }

abbrev pub timetz_of : PgpTimetz → TimeTz
timetz_of v = record { microseconds = v.microseconds; zone = v.zone }

-- the number of an error; those that the core has too have its number
abbrev pub numeric_number : NumericError → ℕ
numeric_number errors.OutOfMemory = 1
numeric_number errors.UnexpectedEof = 7
numeric_number errors.NotDrained = 8
numeric_number errors.InvalidSign = 21
numeric_number errors.InvalidScale = 22
numeric_number errors.InvalidDigit = 23
numeric_number errors.InvalidText = 24
numeric_number errors.OutOfRange = 25

-- why the bytes are no numeric
abbrev pub IsNoNumeric : List ℕ → ℕ → Type 0
IsNoNumeric bytes code = (e : NumericError) × NumericReads bytes (Err e) × (code ≡ numeric_number e)

-- why a text says no numeric: it isn't UTF-8, is no number, or one that no numeric holds
abbrev pub IsNoNumericText : List ℕ → ℕ → Type 0
IsNoNumericText text code = ((code ≡ 9) × (IsUtf8 text → ⊥)) ⊎ ((e : NumericError) × TextRefused text e × (code ≡ numeric_number e))
