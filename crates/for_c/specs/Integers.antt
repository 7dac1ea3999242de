-- Decimal numbers that are integers, as C has them.
use Rattle.std.specs.Prelude.{◌≡◌, ◌⊎◌, ℕ, ℤ, pos, ◌^◌, ◌+ℤ◌, ◌*ℤ◌, List, Ok, Err}
use Rattle.pgp_values.specs.Decimal.{Numeric, NumericReads, numeric_bytes}
use Rattle.pgp_values.specs.Integer.{IntegerMeans, ReadsInteger}
use Rattle.pgp_values.specs.declared.integer.IntegerError.{IntegerError}
use Rattle.pgp_values.specs.declared.integer.IntegerError.TheVariants.{NotFinite, Fraction, OutOfRange}
use Rattle.for_c.specs.Further.{IsNoNumeric}
use Rattle.for_c.specs.Values.{Lacks, Wrote}

-- an integer of 128 bits by its halves: the upper one has the sign
abbrev pub whole : ℤ → ℕ → ℤ
whole high low = high *ℤ pos (2 ^ 64) +ℤ pos low

-- the numeric that is this integer was written, or is longer than the memory
abbrev pub WroteInteger : ℤ → List ℕ → List ℕ → ℕ → Type 0
WroteInteger n old new reported = (x : Numeric) × IntegerMeans n x × Wrote (numeric_bytes x) old new reported

abbrev pub LacksInteger : ℤ → List ℕ → ℕ → ℕ → Type 0
LacksInteger n old reported code = (x : Numeric) × IntegerMeans n x × Lacks (numeric_bytes x) old reported code

-- the bytes are a numeric that is this integer, which fits
abbrev pub IsIntegerIn : (ℤ → Type 0) → List ℕ → ℤ → Type 0
IsIntegerIn Fits bytes n = (x : Numeric) × NumericReads bytes (Ok x) × ReadsInteger Fits x (Ok n)

-- the number of an error
abbrev pub integer_number : IntegerError → ℕ
integer_number OutOfRange = 25
integer_number NotFinite = 40
integer_number Fraction = 41

-- why they are none: they are no numeric, or one that is no integer that fits
abbrev pub IsNoInteger : (ℤ → Type 0) → List ℕ → ℕ → Type 0
IsNoInteger Fits bytes code = IsNoNumeric bytes code ⊎ ((x : Numeric) × NumericReads bytes (Ok x) × (e : IntegerError) × ReadsInteger Fits x (Err e) × (code ≡ integer_number e))
