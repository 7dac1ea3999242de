-- The mark of a line: when its message was whole, who sent it, and which request it is or belongs to.
use Rattle.std.specs.Prelude.{◌≡◌, ℕ, ◌-◌, ◌/◌, ◌%◌, nat_lt, ◌==◌, if◌then◌else◌, ℤ, pos, ◌-ℤ◌, List, [], ◌∷◌, ◌++◌, length, codes, decimal}
use Rattle.pgp_value_text.specs.Calendar.{ShowsDay}
use Rattle.pgtrace_session.specs.Common.{blanks, Form, Columns, Json, Sender, Client, Server, Start, Dated, Pending, At, Told, Number, Answer, Lost, Nothing, Uncounted}
use Rattle.pgtrace_session.specs.Recording.{arrow}

-- ---- times, in microseconds since 1970

-- what microseconds are beyond whole seconds, as `.123456`
unfoldable pub fraction : ℕ → List ℕ
fraction n = codes "." ++ decimal (n / 100000 % 10) ++ decimal (n / 10000 % 10) ++ decimal (n / 1000 % 10) ++ decimal (n / 100 % 10) ++ decimal (n / 10 % 10) ++ decimal (n % 10)

-- so many microseconds as seconds, with six digits after the point
unfoldable pub number : ℕ → List ℕ
number n = decimal (n / 1000000) ++ fraction n

-- the seconds from one time to another, which may lie before it
abbrev pub since : (start micros : ℕ) → List ℕ
since start micros = if nat_lt micros start then 45 ∷ number (start - micros) else number (micros - start)

-- the day of a time, counted from 2000-01-01, which was 10,957 days after 1970-01-01
abbrev pub day_of : ℕ → ℤ
day_of micros = pos (micros / 86400000000) -ℤ pos 10957

-- the time of day as `10:20:30`
unfoldable pub clock : ℕ → List ℕ
clock n = decimal (n / 3600000000 % 24 / 10) ++ decimal (n / 3600000000 % 24 % 10) ++ codes ":" ++ decimal (n / 60000000 % 60 / 10) ++ decimal (n / 60000000 % 60 % 10) ++ codes ":" ++ decimal (n / 1000000 % 60 / 10) ++ decimal (n / 1000000 % 60 % 10)

-- what times are counted from, once a chunk comes at this time
abbrev pub started : Start → ℕ → Start
started Dated micros = Dated
started Pending micros = At micros
started (At first) micros = At first

-- the time from which seconds are counted, at a chunk that comes at this time
abbrev pub origin : Start → (micros : ℕ) → ℕ
origin Dated micros = 0
origin Pending micros = micros
origin (At first) micros = first

-- A time in a mark: the date and the time of day in UTC, as a server shows the date, or the seconds from where they are counted; in an object always seconds.
abbrev pub ShowsTime : Form → Start → ℕ → (text : List ℕ) → Type 0
ShowsTime Columns Dated micros text = (day : List ℕ) × ShowsDay (day_of micros) day × (text ≡ day ++ 32 ∷ clock micros ++ fraction micros)
ShowsTime form start micros text = text ≡ since (origin start micros) micros

-- ---- marks

abbrev pub between : Sender → List ℕ
between sender = 32 ∷ arrow sender ∷ 32 ∷ []

abbrev pub member : Sender → List ℕ
member Client = codes ",\"from\":\"client\","
member Server = codes ",\"from\":\"server\","

-- a time at the right of 12 characters, unless it is longer, as a date is, and an arrow; or the first members of an object
abbrev pub mark : Form → Sender → (time : List ℕ) → List ℕ
mark Columns sender time = blanks (12 - length time) ++ time ++ between sender
mark Json sender time = codes "\"time\":" ++ time ++ member sender

-- how many characters a time takes: a date, with four digits for the year, or seconds
abbrev pub time_width : Start → ℕ
time_width Dated = 26
time_width start = 12

-- that of a last line, which has no time
abbrev pub last_mark : Form → Start → Sender → List ℕ
last_mark Columns start sender = blanks (time_width start) ++ between sender
last_mark Json start sender = mark Json sender (codes "null")

-- that of a message which came at a time
abbrev pub IsMark : Form → Sender → Start → ℕ → List ℕ → Type 0
IsMark form sender start micros text = (time : List ℕ) × ShowsTime form start micros time × (text ≡ mark form sender time)

-- ---- what it says of requests

-- so many microseconds as milliseconds, with three digits after the point
unfoldable pub millis : ℕ → List ℕ
millis n = decimal (n / 1000) ++ codes "." ++ decimal (n / 100 % 10) ++ decimal (n / 10 % 10) ++ decimal (n % 10)

-- the milliseconds from one time to another, with their sign, since a clock may be set back
abbrev pub later : (sent now : ℕ) → List ℕ
later sent now = if nat_lt now sent then 45 ∷ millis (sent - now) else 43 ∷ millis (now - sent)

-- a request's number; that of the one which is answered, and how much later; or that there is no place for the message
abbrev pub says : Told → List ℕ
says (Number number) = codes "#" ++ decimal number
says (Answer number sent now) = codes "#" ++ decimal number ++ codes " " ++ later sent now
says Lost = codes "#?"
says Nothing = []
says Uncounted = []

-- up to how many characters blanks stand after it: none where requests aren't numbered
abbrev pub width_of : Told → ℕ
width_of Uncounted = 0
width_of told = 16

abbrev pub padded : (width : ℕ) → List ℕ → List ℕ
padded width text = text ++ blanks (width - length text)

-- the same as members of an object, the time in seconds
abbrev pub members : Told → List ℕ
members (Number number) = codes "\"request\":" ++ decimal number ++ codes ","
members (Answer number sent now) = codes "\"request\":" ++ decimal number ++ codes ",\"after\":" ++ since sent now ++ codes ","
members Lost = codes "\"request\":\"?\","
members Nothing = []
members Uncounted = []

-- what stands in a mark
abbrev pub word : Form → Told → List ℕ
word Columns told = padded (width_of told) (says told)
word Json told = members told

-- ---- lines

-- A line with its mark: before it, or as the first members of its object. (What is no object has it before it.)
abbrev pub marked : Form → (mark line : List ℕ) → List ℕ
marked Columns mark line = mark ++ line
marked Json mark [] = mark
marked Json mark (first ∷ rest) = if first == 123 then 123 ∷ mark ++ rest else mark ++ first ∷ rest
