-- Recordings in files: one that is listed, and several whose statements stand in one table.
use Rattle.std.specs.Prelude.{◌≡◌, ◌⊎◌, ℕ, List, [], ◌∷◌, ◌++◌, Option, Some, None, true}
use Rattle.pgtrace_session.specs.Common.{Appends, AppendsFront, Keeps, Streams, View, Marking, End, Whole, NoChunk, NoRecording, State, Tally}
use Rattle.pgtrace_summary.specs.Runs.{tally_after}
use Rattle.pgtrace_session.specs.Recording.{complaint_of, status_of}
use Rattle.pgtrace_session.specs.Requests.{summary_in}
use Rattle.pgtrace_session.specs.Session.{IsCutShort, IsListing, WritesListing, summarized}
use Rattle.pgtrace_session.specs.Tables.{table}

-- the recording's listing was written, and this is to be said of it
pub record ListsRecording (view : View) (marking : Marking) (before after : Streams) (status : ℕ) (said : List ℕ) : Type 0 where
  pub end : End
  pub listed : WritesListing view marking before after end said
  pub fine : status ≡ status_of end

-- what the requests of a recording ran, where that is known
abbrev pub tallies_in : Option State → List Tally
tallies_in None = []
tallies_in (Some s) = s.tallies

-- these bytes are a recording that ends so, and what its requests ran was added to a table
pub record AddsRecording (view : View) (marking : Marking) (bytes : List ℕ) (end : End) (old new : List Tally) : Type 0 where
  pub output : List ℕ
  pub listing : IsListing (summarized true view) marking bytes end output
  pub added : new ≡ tally_after old (tallies_in (summary_in listing.talk.known.numbers))

-- how two end: as the first of which not all could be read, or else inside a chunk where one of them does
abbrev pub worst : End → End → End
worst NoChunk other = NoChunk
worst NoRecording other = NoRecording
worst one Whole = one
worst one other = other

-- the streams where all bytes of a file are read
abbrev pub file_before : (bytes : List ℕ) → Option (List ℕ) → Streams
file_before bytes output = record { input = Some bytes; output = output }

abbrev pub file_after : Option (List ℕ) → Streams
file_after output = record { input = Some []; output = output }

-- Where files of such names gave such bytes:
module _ (Gives : List ℕ → List ℕ → Type 0) where
  -- the recording in this file was listed as one from standard input is
  pub record ListsFile (view : View) (marking : Marking) (name : List ℕ) (old new : Option (List ℕ)) (status : ℕ) (said : List ℕ) : Type 0 where
    pub bytes : List ℕ
    pub gives : Gives name bytes
    pub lists : ListsRecording view marking (file_before bytes old) (file_after new) status said

  -- or a front of its listing was written, if anything
  abbrev pub CutsFile : View → Marking → (name : List ℕ) → (old new : Option (List ℕ)) → Type 0
  CutsFile view marking name old new = Keeps old new ⊎ ((bytes : List ℕ) × Gives name bytes × IsCutShort view marking (file_before bytes old) (file_after new))

  -- The table to which the recordings in these files were added, one after another, and how they end.
  pub data AddsFiles (view : View) (marking : Marking) : (names : List (List ℕ)) → List Tally → End → Type 0 where
    NoFile : AddsFiles view marking [] [] Whole
    OneFile : {names : List (List ℕ)} {old new : List Tally} {end its : End} (name bytes : List ℕ) → AddsFiles view marking names old end → Gives name bytes
        → AddsRecording view marking bytes its old new → AddsFiles view marking (names ++ name ∷ []) new (worst end its)

  -- it was written, and nothing else, and it is said how they end
  pub record ListsTable (view : View) (marking : Marking) (names : List (List ℕ)) (old new : Option (List ℕ)) (status : ℕ) (said : List ℕ) : Type 0 where
    pub tallies : List Tally
    pub end : End
    pub adds : AddsFiles view marking names tallies end
    pub written : Appends old new (table view tallies)
    pub fine : status ≡ status_of end
    pub reported : said ≡ complaint_of end

  -- or a front of it, if anything
  abbrev pub CutsTable : View → Marking → (names : List (List ℕ)) → (old new : Option (List ℕ)) → Type 0
  CutsTable view marking names old new = Keeps old new ⊎ ((tallies : List Tally) × (end : End) × AddsFiles view marking names tallies end × AppendsFront old new (table view tallies))
