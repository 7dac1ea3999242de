-- A server counts days from 2000-01-01 and microseconds from its midnight; `jiff` counts days and nanoseconds from 1970-01-01.
-- PostgreSQL manual, "Date/Time Types"; the numbers as a server sends them.
use Rattle.std.specs.Prelude.{ℕ, ◌*◌, ◌/◌, ◌%◌, if◌then◌else◌, ℤ, pos, ◌+ℤ◌, ◌*ℤ◌, ◌≤ℤ◌, ◌<ℤ◌, int_lt, unsigned_abs}

-- 2000-01-01 was this many days after 1970-01-01
abbrev pub day_1970 : ℤ → ℤ
day_1970 days = days +ℤ pos 10_957

-- and its midnight this many microseconds after the other
abbrev pub nanos_1970 : ℤ → ℤ
nanos_1970 microseconds = (microseconds +ℤ pos 946_684_800_000_000) *ℤ pos 1_000

-- the whole microseconds of a number of nanoseconds since 1970, rounded down
abbrev pub IsFloor : ℤ → ℤ → Type 0
IsFloor nanos microseconds =
    (nanos_1970 microseconds ≤ℤ nanos) × (nanos <ℤ (nanos_1970 microseconds +ℤ pos 1_000))

-- the microseconds of a time of day before 24:00
abbrev pub IsTimeOfDay : ℤ → Type 0
IsTimeOfDay microseconds = (pos 0 ≤ℤ microseconds) × (microseconds <ℤ pos 86_400_000_000)

-- The calendar repeats itself every 400 years, which have so many days, and so many microseconds. `jiff` ends with the year 9999.
abbrev pub days_cycle : ℕ
days_cycle = 146_097

abbrev pub microseconds_cycle : ℕ
microseconds_cycle = 146_097 * 86_400_000_000

-- how many years after those from 2000 to 2399 it is, by whole cycles; none before 2000
abbrev pub later : ℕ → ℤ → ℕ
later cycle n = if int_lt n (pos 0) then 0 else 400 * (unsigned_abs n / cycle)

-- and which day or microsecond of these years it is in its cycle
abbrev pub in_cycle : ℕ → ℤ → ℤ
in_cycle cycle n = if int_lt n (pos 0) then n else pos (unsigned_abs n % cycle)
