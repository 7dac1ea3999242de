-- What a text means as a numeric, and why a text is rejected.
use Rattle.std.specs.Prelude.{◌≡◌, ◌⊎◌, ℕ, ◌<◌, ◌≤◌, List, length, Result, Ok, Err, ⊤}
use Rattle.pgp_base.specs.Cause.{Wants}
use Rattle.pgp_base.specs.Held.{Held, ◌⊕◌, Leaves}
use Rattle.pgp_values.specs.declared.error.NumericError.{NumericError}
use Rattle.pgp_values.specs.declared.error.NumericError.TheVariants.{OutOfMemory, InvalidText, OutOfRange}
use Rattle.pgp_values.specs.Amount.{IsShown}
use Rattle.pgp_values.specs.Decimal.{Decimal, Numeric, finite, nan, plus_infinity, minus_infinity, IsDecimal, IsCanonical, numeric_bytes}
use Rattle.pgp_values.specs.DecimalWriting.{Reported, IsNumberOf}
use Rattle.pgp_values.specs.NumberText.{Spells, Tells, Names}

-- one past the longest text that is looked at and past the greatest exponent, as a server has them
abbrev pub limit : ℕ
limit = 1073741823

-- the number that was reported, in the one form in which a server keeps it; its exponent is below the
-- limit
pub record IsValueOf (t : Reported) (d : Decimal) : Type 0 where
  pub fits : IsDecimal d
  pub means : IsNumberOf t d
  pub canonical : IsCanonical d
  pub small : t.exponent < limit

-- a value in the form that a server keeps: no digit is hidden
abbrev pub IsKept : Numeric → Type 0
IsKept (finite d) = IsDecimal d × (IsCanonical d × IsShown d)
IsKept nan = ⊤
IsKept plus_infinity = ⊤
IsKept minus_infinity = ⊤

-- its exponent passes the limit, or no numeric holds it
abbrev pub IsPast : Reported → Type 0
IsPast t = (limit ≤ t.exponent) ⊎ ((d : Decimal) → IsDecimal d → IsNumberOf t d → ⊥)

-- with no blanks around
abbrev pub NumberMeans : List ℕ → Numeric → Type 0
NumberMeans bytes v = (t : Reported) × Spells bytes t × (d : Decimal) × IsValueOf t d × (v ≡ finite d)

abbrev pub NumberRefused : List ℕ → NumericError → Type 0
NumberRefused bytes InvalidText = (t : Reported) → Spells bytes t → ⊥
NumberRefused bytes OutOfRange = (t : Reported) × Spells bytes t × IsPast t
NumberRefused bytes e = ⊥

abbrev pub TellsOrNames : List ℕ → Numeric → Type 0
TellsOrNames text v = ((t : Reported) × Tells text t × (d : Decimal) × IsValueOf t d × (v ≡ finite d)) ⊎ Names text v

-- The text is short enough to be looked at, and says a number, or names a value.
abbrev pub TextMeans : List ℕ → Numeric → Type 0
TextMeans text v = (length text < limit) × TellsOrNames text v

-- The text is short enough, and neither says a number nor names a value; or it is too long, or says a number that is past.
abbrev pub TextRefused : List ℕ → NumericError → Type 0
TextRefused text InvalidText = (length text < limit) × (((t : Reported) → Tells text t → ⊥) × ((v : Numeric) → Names text v → ⊥))
TextRefused text OutOfRange = (limit ≤ length text) ⊎ ((t : Reported) × Tells text t × IsPast t)
TextRefused text e = ⊥

-- memory was refused that a value needs which is meant
pub record WantsMeant {K : Type 0} (Means : Numeric → Type 0) (lacks : Held K → ℕ → Type 0) (old : Held K) : Type 0 where
  pub value : Numeric
  pub means : Means value
  pub wants : Wants lacks old (length (numeric_bytes value))

-- the bytes of a value that is meant stand after the old ones
pub record AppendsMeant {K : Type 0} (Means : Numeric → Type 0) (old new : Held K) : Type 0 where
  pub value : Numeric
  pub means : Means value
  pub appended : new ≡ old ⊕ numeric_bytes value

-- What the writer of a text leaves: the value that is meant; or the old bytes, where the memory for it, or the text, was refused.
abbrev pub WritesMeant : {K : Type 0} → (Numeric → Type 0) → (NumericError → Type 0) → (Held K → ℕ → Type 0) → Held K → Result (Unit {0}) NumericError → Held K → Type 0
WritesMeant Means Refused lacks old (Ok done) new = AppendsMeant Means old new
WritesMeant Means Refused lacks old (Err e) new = (((e ≡ OutOfMemory) × WantsMeant Means lacks old) ⊎ Refused e) × Leaves old new
