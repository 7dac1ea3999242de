-- Times and dates: how long after a beginning.
-- PostgreSQL manual, "Date/Time Types".
use Rattle.std.specs.Prelude.{ℤ}
use Rattle.pgp_types.specs.Format.{Plain}
use Rattle.pgp_types.specs.Scalar.{int4, int8}

-- microseconds since 2000-01-01 00:00
abbrev pub timestamp : Plain ℤ
timestamp = int8

-- microseconds since midnight
abbrev pub time : Plain ℤ
time = int8

-- days since 2000-01-01
abbrev pub date : Plain ℤ
date = int4
