-- Decimal numbers that are integers.
use Rattle.std.specs.Prelude.{◌≡◌, ℕ, ℤ, pos, neg_ℤ, ◌+◌, ◌*◌, ◌^◌, Bool, true, false, length, Result, Ok, Err}
use Rattle.pgp_values.specs.declared.integer.IntegerError.{IntegerError}
use Rattle.pgp_values.specs.declared.integer.IntegerError.TheVariants.{NotFinite, Fraction, OutOfRange}
use Rattle.pgp_values.specs.Amount.{spelled, before_point, behind_by}
use Rattle.pgp_values.specs.Decimal.{Decimal, Numeric, finite, nan, plus_infinity, minus_infinity, IsDecimal, IsCanonical}

abbrev pub with_sign : Bool → ℕ → ℤ
with_sign false m = pos m
with_sign true m = neg_ℤ (pos m)

-- without its sign the number is this natural number: both sides are it, times a power of ten
abbrev pub IsMagnitude : Decimal → ℕ → Type 0
IsMagnitude d m = spelled 10000 d.digits * 10 ^ before_point d.weight ≡ m * 10 ^ (4 * length d.digits + behind_by d.weight)

-- the number is this integer
pub record IsInteger (d : Decimal) (n : ℤ) : Type 0 where
  pub magnitude : ℕ
  pub same : IsMagnitude d magnitude
  pub signed : n ≡ with_sign d.negative magnitude

-- The number as an integer of a type, which holds those that fit: it is that integer; or it is none; or it is one that
-- doesn't fit.
abbrev pub ReadsInteger : (ℤ → Type 0) → Numeric → Result ℤ IntegerError → Type 0
ReadsInteger Fits (finite d) (Ok n) = IsInteger d n × Fits n
ReadsInteger Fits (finite d) (Err Fraction) = (n : ℤ) → IsInteger d n → ⊥
ReadsInteger Fits (finite d) (Err OutOfRange) = (n : ℤ) × IsInteger d n × (Fits n → ⊥)
ReadsInteger Fits (finite d) (Err NotFinite) = ⊥
ReadsInteger Fits nan r = r ≡ Err NotFinite
ReadsInteger Fits plus_infinity r = r ≡ Err NotFinite
ReadsInteger Fits minus_infinity r = r ≡ Err NotFinite

-- this integer with no places after the point, in the one form in which a server keeps it
pub record IsIntegerOf (n : ℤ) (d : Decimal) : Type 0 where
  pub means : IsInteger d n
  pub scale : d.scale ≡ 0
  pub fits : IsDecimal d
  pub canonical : IsCanonical d

abbrev pub IntegerMeans : ℤ → Numeric → Type 0
IntegerMeans n v = (d : Decimal) × IsIntegerOf n d × (v ≡ finite d)
