-- What requests ran, by the messages that ended their answers.
use Rattle.std.specs.Prelude.{ℕ, zero, suc, ◌+◌, ◌-◌, max, Bool, true, false, ◌&&◌, ◌==◌, nat_lt, if◌then◌else◌, List, [], ◌∷◌, ◌++◌, Option, None, Some, bytes_eq, codes, slice_get}
use Rattle.std.specs.Option.{unwrap_or}
use Rattle.pgtrace_summary.specs.Names.{found, put}
use Rattle.pgtrace_summary.specs.Fold.{folded}
use Rattle.pgtrace_summary.specs.Runs.{Tally, capped, tallied, tally_after}
use Rattle.pgtrace_summary.specs.declared.work.Work.{Work}
use Rattle.pgtrace_summary.specs.declared.work.Work.TheVariants.{Query, Parse, Bind, Execute}
use Rattle.pgtrace_summary.specs.declared.work.Reply.{Reply}
use Rattle.pgtrace_summary.specs.declared.work.Reply.TheVariants.{ParseComplete, BindComplete, ExecuteEnd, ReadyForQuery}

-- ---- texts by their names

-- what stands for the text of what has none
abbrev pub unknown : List ℕ
unknown = codes "?"

abbrev pub text_under : List ℕ → List (List ℕ × List ℕ) → List ℕ
text_under name list = unwrap_or (found name list) unknown

-- a name has this text from now on
abbrev pub named : (name text : List ℕ) → List (List ℕ × List ℕ) → List (List ℕ × List ℕ)
named name text list = put name text list

-- ---- requests

-- its number; and a Query's text, a Parse's statement and text, a Bind's portal and statement, or an Execute's portal
pub record Request : Type 0 where
  pub number : ℕ
  pub work : Work
  pub first : List ℕ
  pub second : List ℕ

-- whether a message ends the answer to what does this, and it took effect: a Parse and a Bind that fail have no such end
abbrev pub ends : Work → Reply → Bool
ends Query ReadyForQuery = true
ends Parse ParseComplete = true
ends Bind BindComplete = true
ends Execute ExecuteEnd = true
ends work reply = false

-- whether a request has this number, and is ended so
abbrev pub is_ended : ℕ → Reply → Request → Bool
is_ended number reply r = (r.number == number) && ends r.work reply

-- a server answers requests in order: those before the one that is answered get no answer any more
abbrev pub skipped : ℕ → List Request → List Request
skipped number [] = []
skipped number (first ∷ more) = if nat_lt first.number number then skipped number more else first ∷ more

abbrev pub is_first_before : ℕ → List Request → Bool
is_first_before number [] = false
is_first_before number (first ∷ more) = nat_lt first.number number

abbrev pub is_first_ended : ℕ → Reply → List Request → Bool
is_first_ended number reply [] = false
is_first_ended number reply (first ∷ more) = is_ended number reply first

-- the first of them, where it is ended so, and what is left
abbrev pub taken : ℕ → Reply → List Request → Option Request × List Request
taken number reply [] = (None, [])
taken number reply (first ∷ more) = if is_ended number reply first then (Some first, more) else (None, first ∷ more)

-- the first of them, if it has this number
abbrev pub first_of : ℕ → List Request → Option Request
first_of number [] = None
first_of number (first ∷ more) = if first.number == number then Some first else None

-- Private: whether one gives this name something once it is ended so; what it gives; and the last of the first n that does.
abbrev pub gives : Reply → (name : List ℕ) → Request → Bool
gives reply name r = ends r.work reply && bytes_eq r.first name

abbrev pub given : Reply → (name : List ℕ) → Option Request → Option (List ℕ)
given reply name None = None
given reply name (Some r) = if gives reply name r then Some r.second else None

abbrev pub given_at : (place : ℕ) → Option (List ℕ) → (before : Option (ℕ × List ℕ)) → Option (ℕ × List ℕ)
given_at place None before = before
given_at place (Some text) before = Some (place, text)

abbrev pub last_given : Reply → (name : List ℕ) → (n : ℕ) → List Request → Option (ℕ × List ℕ)
last_given reply name zero waiting = None
last_given reply name (suc n) waiting = given_at n (given reply name (slice_get waiting n)) (last_given reply name n waiting)

-- ---- what is known of the requests

-- Whether statements are noted without their literals; the texts of statements and portals; the requests whose answers aren't complete, in order; how many rows of which request came; when the last run ended; and the statements that ran.
pub record State : Type 0 where
  pub folds : Bool
  pub statements : List (List ℕ × List ℕ)
  pub portals : List (List ℕ × List ℕ)
  pub waiting : List Request
  pub counted : ℕ
  pub rows : ℕ
  pub last_end : ℕ
  pub tallies : List Tally

-- before the first request
abbrev pub nothing : (folds : Bool) → State
nothing folds = record { folds = folds; statements = []; portals = []; waiting = []; counted = 0; rows = 0; last_end = 0; tallies = [] }

abbrev pub text_in : (folds : Bool) → List ℕ → List ℕ
text_in true text = folded text
text_in false text = text

-- as it is noted: without the literals of its statement, where that is asked for. (A ReadyForQuery ends a Query alone, a ParseComplete a Parse.)
abbrev pub noted : (folds : Bool) → Request → Request
noted folds r = record r { first = text_in (folds && ends r.work ReadyForQuery) r.first; second = text_in (folds && ends r.work ParseComplete) r.second }

-- one more request
abbrev pub asked : Request → State → State
asked r s = record s { waiting = s.waiting ++ noted s.folds r ∷ [] }

-- the rows of the request of this number, so far
abbrev pub rows_of : ℕ → State → ℕ
rows_of number s = if s.counted == number then s.rows else 0

-- a row of it
abbrev pub row : ℕ → State → State
row number s = record s { counted = number; rows = capped (rows_of number s + 1) }

abbrev pub with_waiting : List Request → State → State
with_waiting waiting s = record s { waiting = waiting }

-- an answer comes to the request of this number
abbrev pub reached : ℕ → State → State
reached number s = with_waiting (skipped number s.waiting) s

abbrev pub with_statement : (name text : List ℕ) → State → State
with_statement name text s = record s { statements = named name text s.statements }

abbrev pub with_portal : (name text : List ℕ) → State → State
with_portal name text s = record s { portals = named name text s.portals }

-- How long a run took whose request was sent and whose answer ended then: it began when the one before it ended, where it was sent earlier. (Where the clock was
-- set back no time has gone by.)
abbrev pub lasted : (sent now : ℕ) → State → ℕ
lasted sent now s = now - max sent s.last_end

-- a run of this text by the request of this number
abbrev pub run_at : (text : List ℕ) (number sent now : ℕ) → State → Tally
run_at text number sent now s = record { text = text; rows = rows_of number s; times = lasted sent now s ∷ []; total = lasted sent now s; errors = 0 }

abbrev pub ran : (text : List ℕ) (number sent now : ℕ) → State → State
ran text number sent now s = record s { last_end = now; tallies = tallied (run_at text number sent now s) s.tallies }

-- what a request did that was sent and whose answer ended then
abbrev pub did : Work → Request → (sent now : ℕ) → State → State
did Query r sent now s = ran r.first r.number sent now s
did Parse r sent now s = with_statement r.first r.second s
did Bind r sent now s = with_portal r.first (text_under r.second s.statements) s
did Execute r sent now s = ran (text_under r.first s.portals) r.number sent now s

-- what all of these change that succeed
abbrev pub granted : List Request → State → State
granted [] s = s
granted (r ∷ more) s = granted more (did r.work r 0 0 s)

-- the text that an Execute of this portal runs that is sent now, if all before it succeed
abbrev pub text_due : (portal : List ℕ) → State → List ℕ
text_due portal s = text_under portal (granted s.waiting s).portals

abbrev pub done : Option Request → (sent now : ℕ) → State → State
done None sent now s = s
done (Some r) sent now s = did r.work r sent now s

-- the text of what a request runs, or is to run
abbrev pub text_of : Work → Request → (statements portals : List (List ℕ × List ℕ)) → List ℕ
text_of Query r statements portals = r.first
text_of Parse r statements portals = r.second
text_of Bind r statements portals = text_under r.second statements
text_of Execute r statements portals = text_under r.first portals

abbrev pub error_of : Option Request → State → List Tally
error_of None s = []
error_of (Some r) s = record { text = text_of r.work r s.statements s.portals; rows = 0; times = []; total = 0; errors = 1 } ∷ []

abbrev pub with_runs : List Tally → State → State
with_runs runs s = record s { tallies = tally_after s.tallies runs }

-- the server sent an error for the request of this number
abbrev pub failed : ℕ → State → State
failed number s = with_runs (error_of (first_of number (skipped number s.waiting)) s) (with_waiting (skipped number s.waiting) s)

abbrev pub ended_by : Option Request × List Request → (sent now : ℕ) → State → State
ended_by x sent now s = done x.0 sent now (with_waiting x.1 s)

-- the answer to the request of this number, which was sent then, ends so now
abbrev pub ended : (number : ℕ) → Reply → (sent now : ℕ) → State → State
ended number reply sent now s = ended_by (taken number reply (skipped number s.waiting)) sent now s
