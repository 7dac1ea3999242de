-- The text in which a server shows a span of time under `IntervalStyle` `iso_8601`: ISO 8601's format with designators, where each number
-- has the sign of what it is a part of.
-- PostgreSQL manual, "Date/Time Types", "Interval Output".
use Rattle.std.specs.Prelude.{◌≡◌, ℕ, ◌/◌, ◌%◌, ◌*◌, ◌==◌, ◌&&◌, if◌then◌else◌, ℤ, unsigned_abs, List, [], ◌∷◌, ◌++◌, codes, Bool, false}
use Rattle.std.specs.Fmt.{sign_text}
use Rattle.std.specs.Int.{is_negative}
use Rattle.jiff_fmt.specs.Text.{unit_text, seconds_text}
use Rattle.pgp_values.specs.declared.time.Interval.{Interval}

-- a number with its designator; nothing where it is 0
abbrev pub part : Bool → ℕ → ℕ → List ℕ
part negative n designator = if n == 0 then [] else sign_text negative ++ unit_text false n designator

-- `1Y2M`
unfoldable pub months_text : ℤ → List ℕ
months_text months =
    part (is_negative months) (unsigned_abs months / 12) 89 ++ part (is_negative months) (unsigned_abs months % 12) 77

-- `3D`
abbrev pub days_text : ℤ → List ℕ
days_text days = part (is_negative days) (unsigned_abs days) 68

-- `6.5S`, of microseconds below a minute: no more places than they take
abbrev pub seconds_part : Bool → ℕ → List ℕ
seconds_part negative n = if n == 0 then [] else sign_text negative ++ seconds_text false (n * 1_000)

-- `4H5M6.5S`
unfoldable pub clock_parts : Bool → ℕ → List ℕ
clock_parts negative n =
    part negative (n / 3_600_000_000) 72 ++ part negative (n / 60_000_000 % 60) 77 ++ seconds_part negative (n % 60_000_000)

-- the hours, minutes and seconds after `T`; nothing where they are 0
unfoldable pub clock_text : ℤ → List ℕ
clock_text microseconds = if unsigned_abs microseconds == 0 then []
    else 84 ∷ clock_parts (is_negative microseconds) (unsigned_abs microseconds)

abbrev pub is_zero : Interval → Bool
is_zero v = unsigned_abs v.months == 0 && unsigned_abs v.days == 0 && unsigned_abs v.microseconds == 0

-- `P1Y2M3DT4H5M6.5S`, `P-1MT2H`, `PT0S`
abbrev pub span_text : Interval → List ℕ
span_text v = if is_zero v then codes "PT0S"
    else 80 ∷ months_text v.months ++ days_text v.days ++ clock_text v.microseconds

abbrev pub ShowsSpan : Interval → List ℕ → Type 0
ShowsSpan v text = text ≡ span_text v
