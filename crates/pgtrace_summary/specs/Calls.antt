-- The runs that calls of a summary came to, and what is said of each statement by them alone.
use Rattle.std.specs.Prelude.{◌≡◌, ◌≤◌, ◌==◌, ⊤, ℕ, ◌+◌, Bool, true, false, if◌then◌else◌, List, [], ◌∷◌, ◌++◌, Option, Some, None}
use Rattle.std.specs.List.{AllByRecursion, sum, sum_by}
use Rattle.std.specs.Str.{bytes_eq}
use Rattle.pgtrace_summary.specs.Runs.{Tally, capped}
use Rattle.pgtrace_summary.specs.Summary.{Request, State, asked, ended, error_of, failed, first_of, row, run_at, skipped, taken, text_under}
use Rattle.pgtrace_summary.specs.declared.work.Work.{Work}
use Rattle.pgtrace_summary.specs.declared.work.Work.TheVariants.{Query, Parse, Bind, Execute}
use Rattle.pgtrace_summary.specs.declared.work.Reply.{Reply}

-- ---- calls

pub data Call : Type 0 where
  Ask : (request : Request) → Call
  Row : (number : ℕ) → Call
  End : (number : ℕ) (reply : Reply) (sent now : ℕ) → Call
  Fail : (number : ℕ) → Call

abbrev pub called : Call → State → State
called (Ask request) s = asked request s
called (Row number) s = row number s
called (End number reply sent now) s = ended number reply sent now s
called (Fail number) s = failed number s

abbrev pub after : State → List Call → State
after s [] = s
after s (call ∷ more) = after (called call s) more

-- the run that a request is, whose answer is complete
abbrev pub run_by : Work → Request → (sent now : ℕ) → State → List Tally
run_by Query r sent now s = run_at r.first r.number sent now s ∷ []
run_by Parse r sent now s = []
run_by Bind r sent now s = []
run_by Execute r sent now s = run_at (text_under r.first s.portals) r.number sent now s ∷ []

abbrev pub run_of : Option Request → (sent now : ℕ) → State → List Tally
run_of None sent now s = []
run_of (Some r) sent now s = run_by r.work r sent now s

-- the run that a call ends, if it does, or the error of one that failed
abbrev pub run_in : Call → State → List Tally
run_in (Ask request) s = []
run_in (Row number) s = []
run_in (End number reply sent now) s = run_of (taken number reply (skipped number s.waiting)).0 sent now s
run_in (Fail number) s = error_of (first_of number (skipped number s.waiting)) s

-- those that calls end, in order
abbrev pub runs_in : State → List Call → List Tally
runs_in s [] = []
runs_in s (call ∷ more) = run_in call s ++ runs_in (called call s) more

-- no request was sent earlier than the first, and each answer ended no earlier than the one before it: the clock wasn't set back
abbrev pub GoesOn : (first before : ℕ) → List Call → Type 0
GoesOn first before [] = ⊤
GoesOn first before (End number reply sent now ∷ more) = (first ≤ sent) × (before ≤ now) × GoesOn first now more
GoesOn first before (call ∷ more) = GoesOn first before more

-- the sum of all their times
abbrev pub time_of : List Tally → ℕ
time_of runs = sum_by (λ (run : Tally). sum run.times) runs

-- ---- what is said of a statement

-- the times of its runs, in order
abbrev pub times_of : List ℕ → List Tally → List ℕ
times_of text [] = []
times_of text (run ∷ more) = if bytes_eq run.text text then run.times ++ times_of text more else times_of text more

-- and the sum of a number that each has
abbrev pub all_of : (Tally → ℕ) → List ℕ → List Tally → ℕ
all_of part text [] = 0
all_of part text (run ∷ more) = if bytes_eq run.text text then part run + all_of part text more else all_of part text more

abbrev pub stands_in : List ℕ → List Tally → Bool
stands_in text [] = false
stands_in text (e ∷ more) = if bytes_eq e.text text then true else stands_in text more

-- nothing, where it didn't run
abbrev pub said_of : List ℕ → List Tally → Option Tally
said_of text runs = if stands_in text runs then Some (record { text = text; rows = capped (all_of (λ r. r.rows) text runs); times = times_of text runs; total = capped (all_of (λ r. r.total) text runs); errors = capped (all_of (λ r. r.errors) text runs) }) else None

-- what a table says of it
abbrev pub found : List ℕ → List Tally → Option Tally
found text [] = None
found text (e ∷ more) = if bytes_eq e.text text then Some e else found text more

-- no statement stands there twice
abbrev pub AreApart : List Tally → Type 0
AreApart [] = ⊤
AreApart (e ∷ more) = (stands_in e.text more ≡ false) × AreApart more

-- ---- the order of a table

-- each total is no less than those behind it
abbrev pub Falls : List Tally → Type 0
Falls [] = ⊤
Falls (e ∷ more) = AllByRecursion (λ (x : Tally). x.total ≤ e.total) more × Falls more

-- the statements of this total, in their order
abbrev pub of_total : ℕ → List Tally → List Tally
of_total total [] = []
of_total total (e ∷ more) = if e.total == total then e ∷ of_total total more else of_total total more
