-- The text in which a server shows a day and a time, under `DateStyle` `ISO` and with the time zone `UTC`.
-- PostgreSQL manual, "Date/Time Types", "Date/Time Output".
use Rattle.std.specs.Prelude.{◌≡◌, ℕ, zero, suc, ◌/◌, ◌%◌, nat_lt, if◌then◌else◌, ℤ, pos, negsuc, ◌+ℤ◌, ◌*ℤ◌, ◌≤ℤ◌, List, [], ◌∷◌, ◌++◌, length, codes, None, Result, Ok, Err, ⊤, ◌+◌, ◌⊎◌}
use Rattle.std.specs.Fmt.{decimal}
use Rattle.jiff_core.specs.declared.civil.date.Date.{Date}
use Rattle.jiff_core.specs.declared.civil.time.Time.{Time}
use Rattle.jiff_core.specs.declared.civil.datetime.DateTime.{DateTime}
use Rattle.jiff_core.specs.Date.{epoch_day}
use Rattle.jiff_core.specs.DateTime.{civil_nanos}
use Rattle.jiff_core.specs.Time.{time_nanos}
use Rattle.jiff.specs.Words.{IsEpochDay, IsCivilNanos}
use Rattle.jiff_fmt.specs.Text.{pad2, pad4, time_text}
use Rattle.pgp_values.specs.declared.moment.Moment.{Moment}
use Rattle.pgp_values.specs.declared.moment.Moment.TheVariants.{PosInfinity, NegInfinity, Value}
use Rattle.pgp_base.specs.Held.{Held, ◌⊕◌, Leaves}
use Rattle.pgp_base.specs.Cause.{Wants}
use Rattle.pgp_value_text.specs.declared.error.TextError.{TextError}
use Rattle.pgp_value_text.specs.declared.error.TextError.TheVariants.{OutOfMemory, OutOfRange}
use Rattle.pgp_value_text.specs.Numbers.{day_1970, days_cycle, in_cycle, later, microseconds_cycle, nanos_1970}

-- the year as its era counts it: 1 BC is the year 0 of the calendar, 2 BC the year -1
abbrev pub counted : ℤ → ℕ
counted (pos zero) = 1
counted (pos (suc n)) = suc n
counted (negsuc n) = suc (suc n)

abbrev pub era : ℤ → List ℕ
era (pos zero) = codes " BC"
era (pos (suc n)) = []
era (negsuc n) = codes " BC"

-- a year of four digits, or as many as it takes
unfoldable pub year_text : ℕ → List ℕ
year_text n = if nat_lt n 10_000 then pad4 n else decimal n

-- `2026-11-27`, without its era: a day of a year that is given
abbrev pub day_text : ℤ → Date → List ℕ
day_text year d = year_text (counted year) ++ 45 ∷ pad2 d.month ++ 45 ∷ pad2 d.day

-- the year so many years later
abbrev pub year_after : ℕ → Date → ℤ
year_after years d = d.year +ℤ pos years

-- `10:20:30.5`: no more places than it takes
abbrev pub clock_text : Time → List ℕ
clock_text = time_text None

-- `2026-11-27`, `0044-03-15 BC`
abbrev pub date_text : ℕ → Date → List ℕ
date_text years d = day_text (year_after years d) d ++ era (year_after years d)

-- `2026-11-27 10:20:30.5`, with the zone between the time and the era
abbrev pub instant_text : ℕ → List ℕ → DateTime → List ℕ
instant_text years zone dt = day_text (year_after years dt.date) dt.date ++ 32 ∷ clock_text dt.time ++ zone ++ era (year_after years dt.date)

abbrev pub ShowsDay : ℤ → List ℕ → Type 0
ShowsDay days text = (d : Date) × (epoch_day d ≡ day_1970 (in_cycle days_cycle days)) × (text ≡ date_text (later days_cycle days) d)

abbrev pub ShowsInstant : List ℕ → ℤ → List ℕ → Type 0
ShowsInstant zone microseconds text =
    (dt : DateTime) × (civil_nanos dt ≡ nanos_1970 (in_cycle microseconds_cycle microseconds)) × (text ≡ instant_text (later microseconds_cycle microseconds) zone dt)

-- a moment, or one of the two that are no day
abbrev pub ShowsMoment : {T : Type 0} → (T → List ℕ → Type 0) → Moment T → List ℕ → Type 0
ShowsMoment shows PosInfinity text = text ≡ codes "infinity"
ShowsMoment shows NegInfinity text = text ≡ codes "-infinity"
ShowsMoment shows (Value v) text = shows v text

-- a time of day, the end of a day included
abbrev pub IsShownTime : ℤ → Type 0
IsShownTime microseconds = (pos 0 ≤ℤ microseconds) × (microseconds ≤ℤ pos 86_400_000_000)

abbrev pub ShowsTime : ℤ → List ℕ → Type 0
ShowsTime microseconds text =
    ((microseconds ≡ pos 86_400_000_000) × (text ≡ codes "24:00:00"))
    ⊎ ((t : Time) × (pos (time_nanos t) ≡ microseconds *ℤ pos 1_000) × (text ≡ clock_text t))

-- the calendar has the day, or the instant
abbrev pub IsShownDay : ℤ → Type 0
IsShownDay days = IsEpochDay (day_1970 (in_cycle days_cycle days))

abbrev pub IsShownInstant : ℤ → Type 0
IsShownInstant microseconds = IsCivilNanos (nanos_1970 (in_cycle microseconds_cycle microseconds))

-- a moment has a text where it is no number, or its number is in range
abbrev pub HasText : (ℤ → Type 0) → Moment ℤ → Type 0
HasText in_range PosInfinity = ⊤
HasText in_range NegInfinity = ⊤
HasText in_range (Value z) = in_range z

-- A writer of a text that shows something: it appends one; or the buffer stays, and either there is nothing to show, or memory for the text
-- is lacking.
abbrev pub WritesText : {Kept : Type 0} → (List ℕ → Type 0) → Type 0 → (Held Kept → ℕ → Type 0) → Held Kept → Held Kept → Result (Unit {0}) TextError → Type 0
WritesText shows in_range lacks old new (Ok done) = (text : List ℕ) × shows text × (new ≡ old ⊕ text)
WritesText shows in_range lacks old new (Err OutOfMemory) = ((text : List ℕ) × shows text × Wants lacks old (length text)) × Leaves old new
WritesText shows in_range lacks old new (Err OutOfRange) = (¬ in_range) × Leaves old new
