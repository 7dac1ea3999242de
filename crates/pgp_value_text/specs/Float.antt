-- The text of a floating-point number: rounded to the digits that each number of its format keeps, as a server shows it where `extra_float_digits` is 0.
-- PostgreSQL manual, "Numeric Types", "Floating-Point Types"; C's `%.6g` and `%.15g`.
use Rattle.std.specs.Prelude.{◌≡◌, ℕ, zero, suc, ◌+◌, ◌-◌, ◌*◌, ◌/◌, ◌%◌, ◌^◌, ◌<◌, ◌≤◌, ◌==◌, nat_lt, if◌then◌else◌, ◌⊎◌, Bool, false, List, [], ◌∷◌, ◌++◌, codes, Option, Some, None}
use Rattle.std.specs.Float.{Float, Format, binary32, binary64}
use Rattle.std.specs.Float.Ieee.{nan, inf, fin, up, down, eq}
use Rattle.std.specs.Float.Parse.{parse_float}
use Rattle.std.specs.Fmt.{decimal, sign_text}
use lib.Ieee.Nearest.{closest}

-- so many decimal digits each number of the format keeps
abbrev pub kept : Format → ℕ
kept binary32 = 6
kept binary64 = 15

-- num / den with so many places after the point, to the nearest, of two the even one: how many of the last place it is
abbrev pub scaled : ℕ → ℕ → ℕ → ℕ
scaled num den places = closest (num * 10 ^ places) den

-- The most places with which it has no more than so many digits. There are no more than three more than the digits, or it is below 0.0001.
pub record IsPlaces (digits num den places : ℕ) : Type 0 where
  pub few : places ≤ digits + 3
  pub fits : scaled num den places < 10 ^ digits
  pub most : (k : ℕ) → places < k → k ≤ digits + 4 → 10 ^ digits ≤ scaled num den k

-- the last digits of a number
abbrev pub last_digits : ℕ → ℕ → List ℕ
last_digits zero n = []
last_digits (suc k) n = (48 + n / 10 ^ k % 10) ∷ last_digits k n

abbrev pub pointed : ℕ → ℕ → List ℕ
pointed zero n = decimal n
pointed (suc k) n = decimal (n / 10 ^ suc k) ++ 46 ∷ last_digits (suc k) n

-- without zeros at the end, and without a point behind which nothing is left
abbrev pub trimmed : ℕ → ℕ → List ℕ
trimmed zero n = decimal n
trimmed (suc k) n = if n % 10 == 0 then trimmed k (n / 10) else pointed (suc k) n

-- a size other than 0, shown without an exponent
abbrev pub HasDigits : ℕ → ℕ → ℕ → List ℕ → Type 0
HasDigits digits num den size = (places : ℕ) × IsPlaces digits num den places × (size ≡ trimmed places (scaled num den places))

-- Where it has more digits before the point: the least power of ten of which it is a number of no more than so many digits.
pub record IsLarge (digits num den tens : ℕ) : Type 0 where
  pub some : 0 < tens
  pub fits : closest num (den * 10 ^ tens) < 10 ^ digits
  pub fewest : (k : ℕ) → k < tens → 10 ^ digits ≤ closest num (den * 10 ^ k)

-- Where it is below 0.0001: the most places with which it has no more than so many digits, however many they are.
pub record IsSmall (digits num den places : ℕ) : Type 0 where
  pub many : digits + 4 ≤ places
  pub fits : scaled num den places < 10 ^ digits
  pub most : (k : ℕ) → places < k → 10 ^ digits ≤ scaled num den k

-- two digits at least
abbrev pub exponent_text : ℕ → List ℕ
exponent_text n = if nat_lt n 10 then 48 ∷ decimal n else decimal n

-- with one digit before the point, and an exponent
abbrev pub HasLarge : ℕ → ℕ → ℕ → List ℕ → Type 0
HasLarge digits num den size = (tens : ℕ) × IsLarge digits num den tens
    × (size ≡ trimmed (digits - 1) (closest num (den * 10 ^ tens)) ++ (codes "e+" ++ exponent_text (tens + (digits - 1))))

abbrev pub HasSmall : ℕ → ℕ → ℕ → List ℕ → Type 0
HasSmall digits num den size = (places : ℕ) × IsSmall digits num den places
    × (size ≡ trimmed (digits - 1) (scaled num den places) ++ (codes "e-" ++ exponent_text (places - (digits - 1))))

abbrev pub ShowsSize : ℕ → ℕ → ℕ → List ℕ → Type 0
ShowsSize digits zero den size = size ≡ codes "0"
ShowsSize digits (suc num) den size = HasDigits digits (suc num) den size ⊎ (HasLarge digits (suc num) den size ⊎ HasSmall digits (suc num) den size)

-- whether a text that is read is this number
abbrev pub is_equal : Option Float → Float → Bool
is_equal (Some y) x = eq y x
is_equal None x = false

-- `~` stands before a text that isn't read as the number itself
abbrev pub marked : Bool → List ℕ → List ℕ
marked exact text = if exact then text else 126 ∷ text

abbrev pub ShowsFloat : Format → Float → List ℕ → Type 0
ShowsFloat f nan text = text ≡ codes "NaN"
ShowsFloat f (inf negative) text = text ≡ sign_text negative ++ codes "Infinity"
ShowsFloat f (fin negative m e) text = (size : List ℕ) × ShowsSize (kept f) (m * up e) (down e) size
    × (text ≡ marked (is_equal (parse_float f (sign_text negative ++ size)) (fin negative m e)) (sign_text negative ++ size))

-- Private: what the fields of the exponent and of the digits say: a whole number, and by how many binary places it is moved up. A field of 0 has no leading digit.
abbrev pub field_value : ℕ → ℕ → ℕ → ℕ × ℕ
field_value zero digits lead = (digits, 0)
field_value (suc x) digits lead = (lead + digits, x)
