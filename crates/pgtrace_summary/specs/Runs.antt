-- Runs of statements, and what is said of each statement.
use Rattle.std.specs.Prelude.{ℕ, ◌+◌, ◌-◌, ◌*◌, ◌/◌, ◌%◌, ◌^◌, ◌==◌, min, nat_lt, if◌then◌else◌, List, [], ◌∷◌, ◌++◌, length, get_or}
use Rattle.std.specs.List.{sum_by}
use Rattle.std.specs.Str.{bytes_eq}
use Rattle.pgtrace_summary.specs.declared.entry.Line.{Line}

-- what requests of a statement came to, one or more: its text, the rows that the server sent, the microseconds that each run took, in the order in which they ended, their sum, and how many errors there were
pub record Tally : Type 0 where
  pub text : List ℕ
  pub rows : ℕ
  pub times : List ℕ
  pub total : ℕ
  pub errors : ℕ

-- as far as 64 bits count
abbrev pub capped : ℕ → ℕ
capped n = min n (2 ^ 64 - 1)

-- with more runs of it
abbrev pub grown : Tally → Tally → Tally
grown run e = record { text = e.text; rows = capped (e.rows + run.rows); times = e.times ++ run.times; total = capped (e.total + run.total); errors = capped (e.errors + run.errors) }

-- with its first
abbrev pub begun : Tally → Tally
begun run = grown run (record { text = run.text; rows = 0; times = []; total = 0; errors = 0 })

-- one more run, among those of its statement
abbrev pub tallied : Tally → List Tally → List Tally
tallied run [] = begun run ∷ []
tallied run (e ∷ more) = if bytes_eq e.text run.text then grown run e ∷ more else e ∷ tallied run more

-- the statements of these runs too, in the order in which the first run or error of each came: those of a request each, or the lines of another table
abbrev pub tally_after : List Tally → List Tally → List Tally
tally_after tallies [] = tallies
tally_after tallies (run ∷ more) = tally_after (tallied run tallies) more

abbrev pub tally : List Tally → List Tally
tally runs = tally_after [] runs

-- ---- what is said of a statement

-- a number among ascending ones
abbrev pub inserted : ℕ → List ℕ → List ℕ
inserted n [] = n ∷ []
inserted n (x ∷ xs) = if nat_lt x n then x ∷ inserted n xs else n ∷ x ∷ xs

-- numbers in ascending order
abbrev pub ascending : List ℕ → List ℕ
ascending [] = []
ascending (x ∷ xs) = inserted x (ascending xs)

-- the one in the middle, and of an even number of them the mean of the two, rounded down
abbrev pub median_of : List ℕ → ℕ
median_of times = if length times % 2 == 1 then get_or times (length times / 2) 0 else (get_or times (length times / 2 - 1) 0 + get_or times (length times / 2) 0) / 2

-- the part of the whole, in thousandths rounded down
abbrev pub share_of : (total whole : ℕ) → ℕ
share_of total whole = if whole == 0 then 0 else capped (total * 1000 / whole)

-- how many runs and errors, their rows, and the sum, its share of the whole, the least, the median and the greatest of their times, which stand in ascending order
abbrev pub line_by : (whole : ℕ) → Tally → List ℕ → Line
line_by whole e times = record { count = length times; errors = e.errors; rows = e.rows; total = e.total; share = share_of e.total whole; least = get_or times 0 0; median = median_of times; greatest = get_or times (length times - 1) 0 }

abbrev pub line_of : (whole : ℕ) → Tally → Line
line_of whole e = line_by whole e (ascending e.times)

-- ---- a table

-- a statement before the first whose total isn't greater
abbrev pub placed : Tally → List Tally → List Tally
placed e [] = e ∷ []
placed e (first ∷ more) = if nat_lt e.total first.total then first ∷ placed e more else e ∷ first ∷ more

-- the greatest total first, and equal ones in the order in which they came
abbrev pub ranked : List Tally → List Tally
ranked [] = []
ranked (e ∷ more) = placed e (ranked more)

-- the sum of their totals
abbrev pub sum_of : List Tally → ℕ
sum_of tallies = capped (sum_by (λ (e : Tally). e.total) tallies)
