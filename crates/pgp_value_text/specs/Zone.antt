-- The text of a time of day with a zone.
-- PostgreSQL manual, "Date/Time Types", "Date/Time Output"; a zone as a server shows it (`EncodeTimezone`).
use Rattle.std.specs.Prelude.{◌≡◌, ℕ, ℤ, pos, ◌<◌, ◌/◌, ◌%◌, ◌==◌, if◌then◌else◌, unsigned_abs, int_lt, List, ◌∷◌, ◌++◌}
use Rattle.jiff_fmt.specs.Text.{pad2}
use Rattle.pgp_values.specs.declared.time.TimeTz.{TimeTz}
use Rattle.pgp_value_text.specs.Calendar.{ShowsTime}

-- hours, then minutes and seconds as far as they aren't 0
abbrev pub offset_text : ℕ → ℕ → List ℕ
offset_text sign n =
    if n % 60 == 0 then (if n / 60 % 60 == 0 then sign ∷ pad2 (n / 3600) else sign ∷ pad2 (n / 3600) ++ 58 ∷ pad2 (n / 60 % 60))
    else sign ∷ pad2 (n / 3600) ++ 58 ∷ pad2 (n / 60 % 60) ++ 58 ∷ pad2 (n % 60)

-- the value counts seconds west of Greenwich; its text has a plus in the east
abbrev pub zone_text : ℤ → List ℕ
zone_text west = offset_text (if int_lt (pos 0) west then 45 else 43) (unsigned_abs west)

-- no server has a zone of 16 hours or more
abbrev pub ShowsTimeTz : TimeTz → List ℕ → Type 0
ShowsTimeTz v text =
    (unsigned_abs v.zone < 57_600) × ((clock : List ℕ) × ShowsTime v.microseconds clock × (text ≡ clock ++ zone_text v.zone))
