-- The table of a summary.
use Rattle.std.specs.Prelude.{ℕ, ◌-◌, ◌/◌, ◌%◌, nat_lt, if◌then◌else◌, List, [], ◌∷◌, ◌++◌, length, Option, Some, None, codes, decimal}
use Rattle.pgtrace_session.specs.Common.{flat_map, blanks, json_value, quoted, up_to, Form, Columns, Json, Style, Tally, line_of, State, View}
use Rattle.pgtrace_summary.specs.Runs.{ranked, sum_of}
use Rattle.pgtrace_summary.specs.declared.entry.Line.{Line}
use Rattle.pgtrace_session.specs.Marks.{millis, number}

-- a text at the right of so many characters, and a blank after it
abbrev pub cell : (width : ℕ) → List ℕ → List ℕ
cell width text = blanks (width - length text) ++ text ++ 32 ∷ []

-- so many thousandths as a percentage, with a digit after the point
abbrev pub percentage : ℕ → List ℕ
percentage n = decimal (n / 10) ++ codes "." ++ decimal (n % 10) ++ codes "%"

-- how often a statement ran, its errors and rows, and the sum, its share of all, the least, the median and the greatest of its times, in milliseconds
abbrev pub columns : Line → List ℕ
columns l = cell 8 (decimal l.count) ++ cell 8 (decimal l.errors) ++ cell 10 (decimal l.rows) ++ cell 10 (millis l.total) ++ cell 6 (percentage l.share) ++ cell 10 (millis l.least) ++ cell 10 (millis l.median) ++ cell 10 (millis l.greatest)

-- the same as members of an object, the times in seconds, the share as a part of 1

abbrev pub counts : Line → List ℕ
counts l = codes "{\"count\":" ++ decimal l.count ++ codes ",\"errors\":" ++ decimal l.errors ++ codes ",\"rows\":" ++ decimal l.rows

abbrev pub shares : Line → List ℕ
shares l = codes ",\"total\":" ++ number l.total ++ codes ",\"share\":" ++ millis l.share

abbrev pub times : Line → List ℕ
times l = codes ",\"least\":" ++ number l.least ++ codes ",\"median\":" ++ number l.median ++ codes ",\"greatest\":" ++ number l.greatest

abbrev pub members : Line → List ℕ
members l = counts l ++ shares l ++ times l ++ codes ",\"statement\":"

-- with the statement, which is cut past a limit as in a listing
abbrev pub row_by : Form → (limit : ℕ) → Line → (text : List ℕ) → List ℕ
row_by Columns limit l text = columns l ++ up_to limit (quoted Columns) text ++ 10 ∷ []
row_by Json limit l text = members l ++ json_value limit text ++ codes "}" ++ 10 ∷ []

abbrev pub row_of : Style → (whole : ℕ) → Tally → List ℕ
row_of style whole e = row_by style.form style.limit (line_of whole e) e.text

-- it isn't there where no run took as long as is asked for
abbrev pub row_in : View → (whole : ℕ) → Tally → List ℕ
row_in view whole e = if nat_lt (line_of whole e).greatest view.slower then [] else row_of view.style whole e

abbrev pub heading : Form → List ℕ
heading Columns = codes "   count   errors       rows      total  share      least     median   greatest ms" ++ 10 ∷ []
heading Json = []

abbrev pub rows : View → List Tally → List ℕ
rows view tallies = flat_map (row_in view (sum_of tallies)) tallies

-- a line for each statement that ran so long, the greatest total first
abbrev pub table : View → List Tally → List ℕ
table view tallies = heading view.style.form ++ rows view (ranked tallies)

-- what stands at the end of a recording: the table, where one is asked for; or the last lines of both sides
abbrev pub ending_by : View → Option State → (lines : List ℕ) → List ℕ
ending_by view None lines = lines
ending_by view (Some s) lines = table view s.tallies
