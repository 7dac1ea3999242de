-- Private: what the code keeps of statements that ran.
use Rattle.std.specs.Prelude.{⊤, ◌≡◌, ℕ, ◌+◌, ◌-◌, ◌*◌, ◌%◌, ◌^◌, ◌≤◌, List, [], ◌∷◌, ◌++◌, Option, Some, None, map, slice_get}
use Rattle.std.specs.Option.{option_to_list}
use Rattle.pgtrace_summary.specs.Runs.{Tally, capped}

-- the rows of all runs of a statement, their times and the sum of these, and its errors
pub record Ran : Type 0 where
  pub rows : ℕ
  pub times : List ℕ
  pub total : ℕ
  pub errors : ℕ

abbrev pub tally_of : List ℕ × Ran → Tally
tally_of e = record { text = e.0; rows = e.1.rows; times = e.1.times; total = e.1.total; errors = e.1.errors }

abbrev pub tallies_of : List (List ℕ × Ran) → List Tally
tallies_of list = map tally_of list

abbrev pub no_run : Ran
no_run = record { rows = 0; times = []; total = 0; errors = 0 }

-- with what more requests of it came to
abbrev pub more_of : Ran → Ran → Ran
more_of more had = record { rows = capped (had.rows + more.rows); times = had.times ++ more.times; total = capped (had.total + more.total); errors = capped (had.errors + more.errors) }

-- ---- keys that rise as a table's lines follow one another

abbrev pub key : (total place : ℕ) → ℕ
key total place = (2 ^ 64 - 1 - total) * 2 ^ 64 + place

abbrev pub Fits : (total place : ℕ) → Type 0
Fits total place = (total ≤ 2 ^ 64 - 1) × (place ≤ 2 ^ 64 - 1)

-- of the statement at this place
abbrev pub key_at : (place : ℕ) → Option Tally → List ℕ
key_at place None = []
key_at place (Some e) = key e.total place ∷ []

abbrev pub FitsAt : (place : ℕ) → Option Tally → Type 0
FitsAt place None = ⊤
FitsAt place (Some e) = Fits e.total place

-- of the statements from this place on
abbrev pub AreKeys : (place : ℕ) → List Tally → List ℕ → Type 0
AreKeys place [] [] = ⊤
AreKeys place (e ∷ more) (k ∷ keys) = Fits e.total place × (k ≡ key e.total place) × AreKeys (place + 1) more keys
AreKeys place tallies keys = ⊥

-- the statement that a key has
abbrev pub picked : List Tally → (k : ℕ) → List Tally
picked tallies k = option_to_list (slice_get tallies (k % 2 ^ 64))
