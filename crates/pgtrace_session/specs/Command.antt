-- What the program does for its words.
use Rattle.std.specs.Prelude.{◌≡◌, ⊤, ◌⊎◌, ◌||◌, ℕ, nat_lt, length, Bool, true, false, List, [], ◌∷◌, ◌++◌, Option, Some, None, IfSome, codes}
use Rattle.pgtrace_session.specs.Common.{Keeps, Appends, IsAtEnd, Streams, Caused, StopsReading, IsUnread, AppendsFront, AreWords, Fault, Memory, Read, Write, AreOptions, Chosen, chosen_of, options_in, view_by, first_phase, View, Marking}
use Rattle.pgtool_line.specs.Run as run
use Rattle.std.specs.declared.io.ErrorKind.{ErrorKind}
use Rattle.pgtrace_lines.specs.LineNames.{unknown_in}
use Rattle.pgtrace_lines.specs.Listing as stream
use Rattle.pgtrace_lines.specs.Sides as side
use Rattle.pgtrace_lines.specs.declared.options.Listing.{Listing}
use Rattle.pgtrace_lines.specs.declared.options.Listing.TheVariants.{Server, Client, Session}
use Rattle.pgtrace_session.specs.Session as recording
use Rattle.pgtrace_session.specs.Session.{summarized}
use Rattle.pgtrace_session.specs.Several.{CutsFile, CutsTable, ListsFile, ListsRecording, ListsTable}
use Rattle.pgtrace_session.specs.declared.run as code
use Rattle.pgtrace_session.specs.declared.run.Command.TheVariants as variants

-- Shows a listing by these options; or says how the program is called, or which one it is.
pub data Command : Type 0 where
  Show : Listing → Chosen → Command
  Help : Command
  Version : Command

-- the code's
abbrev pub asked : {A : Type 0} → code.Command.Command A → Command
asked (variants.Show listing options) = Show listing (chosen_of options)
asked variants.Help = Help
asked variants.Version = Version

abbrev pub word_of : Listing → List ℕ
word_of Server = codes "server"
word_of Client = codes "client"
word_of Session = codes "session"

-- there are several files for a table alone
abbrev pub is_fit : Chosen → Bool
is_fit chosen = nat_lt (length chosen.files) 2 || chosen.marking.summed

-- The words ask for a listing, by options that it has, which come to this where a terminal shows it or not.
pub record AsksListing (terminal fit : Bool) (listing : Listing) (words : List (List ℕ)) (chosen : Chosen) : Type 0 where
  pub options : List (List ℕ)
  pub whole : words ≡ word_of listing ∷ options
  pub read : AreOptions terminal (options_in listing) options chosen
  pub fits : is_fit chosen ≡ fit

-- the words ask for it, where a terminal shows what is written or not
abbrev pub Asks : (terminal : Bool) → List (List ℕ) → Command → Type 0
Asks terminal words (Show listing chosen) = AsksListing terminal true listing words chosen
Asks terminal words Help = words ≡ codes "--help" ∷ []
Asks terminal words Version = words ≡ codes "--version" ∷ []

-- the words ask for nothing that there is
abbrev pub IsOther : (terminal : Bool) → List (List ℕ) → Type 0
IsOther terminal words = (command : Command) → ¬ Asks terminal words command

-- or for the listing of several files
abbrev pub AsksSeveral : (terminal : Bool) → List (List ℕ) → Type 0
AsksSeveral terminal words = (listing : Listing) × (chosen : Chosen) × AsksListing terminal false listing words chosen

abbrev pub usage : List ℕ
usage = codes "usage: pgtrace server [--json] [--full] [--secrets] [--resume] [--only NAME[,NAME]..] [--except NAME[,NAME]..] [--color auto|always|never] | client [--json] [--full] [--secrets] [--resume] [--only NAME[,NAME]..] [--except NAME[,NAME]..] [--color auto|always|never] [--password-kind password|initial|response].. [--replication] | session [--json] [--full] [--secrets] [--requests] [--slower MS] [--raw] [--names] [--summary] [--fold] [--time absolute|relative] [--only NAME[,NAME]..] [--except NAME[,NAME]..] [--color auto|always|never] [FILE].. | --help | --version" ++ 10 ∷ []

-- what is said of words that ask for nothing: the first name in them that no message has, or how the program is called
abbrev pub refusal_by : Option (List ℕ) → List ℕ
refusal_by (Some name) = codes "pgtrace: no message has the name " ++ name ++ 10 ∷ []
refusal_by None = usage

abbrev pub refusal : List (List ℕ) → List ℕ
refusal words = refusal_by (unknown_in words)

abbrev pub version : List ℕ
version = codes "pgtrace 0.1.0" ++ 10 ∷ []

-- what is said on standard error of a fault
abbrev pub complaint_of : Fault → List ℕ
complaint_of Memory = codes "pgtrace: out of memory" ++ 10 ∷ []
complaint_of Read = codes "pgtrace: read failed" ++ 10 ∷ []
complaint_of Write = codes "pgtrace: write failed" ++ 10 ∷ []

-- the side whose stream is listed by these options
abbrev pub server_by : Chosen → side.Side
server_by chosen = side.Server (first_phase chosen.resume)

abbrev pub client_by : Chosen → side.Side
client_by chosen = side.Client chosen.resume chosen.kinds chosen.replicating

-- how a recording's listing looks by them
abbrev pub session_by : Chosen → View
session_by chosen = summarized chosen.marking.summed (view_by chosen)

-- all of the input was read, its listing was written, and this is to be said of what is left of it
pub record Lists (view : View) (from : side.Side) (before after : Streams) (status : ℕ) (said : List ℕ) : Type 0 where
  pub read : IsAtEnd after.input
  pub listed : IfSome before.input (λ bytes. stream.WritesListing view from bytes before.output after.output said)
  pub fine : status ≡ 0

-- the input is as it was, and a text was written
pub record Prints (text : List ℕ) (before after : Streams) (status : ℕ) (said : List ℕ) : Type 0 where
  pub input : Keeps before.input after.input
  pub written : Appends before.output after.output text
  pub silent : said ≡ []
  pub fine : status ≡ 0

-- The recording of standard input is listed, or that in the file of this name; or the statements of those in several files stand in one table.
abbrev pub DoesSession : (Gives : List ℕ → List ℕ → Type 0) → (files : List (List ℕ)) → View → Marking → Streams → Streams → (status : ℕ) → List ℕ → Type 0
DoesSession Gives [] view marking before after status said = ListsRecording view marking before after status said
DoesSession Gives (name ∷ []) view marking before after status said = Keeps before.input after.input × ListsFile Gives view marking name before.output after.output status said
DoesSession Gives names view marking before after status said = Keeps before.input after.input × ListsTable Gives view marking names before.output after.output status said

-- What is done where no fault is met, with this status, and what is then to be said on standard error.
abbrev pub Does : (Gives : List ℕ → List ℕ → Type 0) → Command → Streams → Streams → (status : ℕ) → List ℕ → Type 0
Does Gives (Show Server chosen) before after status said = Lists (view_by chosen) (server_by chosen) before after status said
Does Gives (Show Client chosen) before after status said = Lists (view_by chosen) (client_by chosen) before after status said
Does Gives (Show Session chosen) before after status said = DoesSession Gives chosen.files (session_by chosen) chosen.marking before after status said
Does Gives Help before after status said = Prints usage before after status said
Does Gives Version before after status said = Prints version before after status said

-- A front of the listing was written; and where a read failed, nothing of what came is held back: its lines were written and passed on.
abbrev pub BreaksOff : Type 0 → View → side.Side → Fault → Streams → Streams → Type 0
BreaksOff passed view from Read before after = stream.WasListed view from before after × (Keeps before.output after.output ⊎ passed)
BreaksOff passed view from fault before after = stream.IsCutShort view from before after

abbrev pub PrintsFront : List ℕ → Streams → Streams → Type 0
PrintsFront text before after = Keeps before.input after.input × AppendsFront before.output after.output text

abbrev pub StopsSession : (Gives : List ℕ → List ℕ → Type 0) → Type 0 → (files : List (List ℕ)) → View → Marking → Fault → Streams → Streams → Type 0
StopsSession Gives passed [] view marking fault before after = recording.BreaksOff passed view marking fault before after
StopsSession Gives passed (name ∷ []) view marking fault before after = Keeps before.input after.input × CutsFile Gives view marking name before.output after.output
StopsSession Gives passed names view marking fault before after = Keeps before.input after.input × CutsTable Gives view marking names before.output after.output

-- What is done where one is: what is written is a front of what would be.
abbrev pub Stops : (Gives : List ℕ → List ℕ → Type 0) → Type 0 → Command → Fault → Streams → Streams → Type 0
Stops Gives passed (Show Server chosen) fault before after = BreaksOff passed (view_by chosen) (server_by chosen) fault before after
Stops Gives passed (Show Client chosen) fault before after = BreaksOff passed (view_by chosen) (client_by chosen) fault before after
Stops Gives passed (Show Session chosen) fault before after = StopsSession Gives passed chosen.files (session_by chosen) chosen.marking fault before after
Stops Gives passed Help fault before after = PrintsFront usage before after
Stops Gives passed Version fault before after = PrintsFront version before after

-- It was done and passed on, with this status, and this is to be said on standard error.
pub record Succeeds (Gives : List ℕ → List ℕ → Type 0) (passed : Type 0) (command : Command) (before after : Streams) (status : ℕ) (complaint : List ℕ) : Type 0 where
  pub does : Does Gives command before after status complaint
  pub passed_on : passed

-- Of such a reader and writer:
module _ {R W : Type 0} (remaining : R → Option (List ℕ)) (contents : W → Option (List ℕ)) (Passed : W → Type 0) (MayRead : R → Type 0) where
  abbrev pub ReadsForSession : (files : List (List ℕ)) → View → Marking → R → W → Type 0
  ReadsForSession [] view marking reader writer = recording.ReadsWhenReady remaining contents Passed MayRead view marking reader writer
  ReadsForSession (name ∷ more) view marking reader writer = ⊤

  -- where all lines of what came are written and passed on, the reader may be read for the command; what prints reads nothing
  abbrev pub ReadsFor : Command → R → W → Type 0
  ReadsFor (Show Server chosen) reader writer = stream.ReadsWhenReady remaining contents Passed MayRead (view_by chosen) (server_by chosen) reader writer
  ReadsFor (Show Client chosen) reader writer = stream.ReadsWhenReady remaining contents Passed MayRead (view_by chosen) (client_by chosen) reader writer
  ReadsFor (Show Session chosen) reader writer = ReadsForSession chosen.files (session_by chosen) chosen.marking reader writer
  ReadsFor Help reader writer = ⊤
  ReadsFor Version reader writer = ⊤

  -- so it may for the command that the words ask for
  abbrev pub ReadsForWords : (terminal : Bool) → List (List ℕ) → R → W → Type 0
  ReadsForWords terminal words reader writer = (command : Command) → Asks terminal words command → ReadsFor command reader writer

  -- and that the words of the process ask for, where words stand so and none stands at such places
  abbrev pub ReadsForOwn : (terminal : Bool) → (ℕ → List ℕ → Type 0) → (ℕ → Type 0) → R → W → Type 0
  ReadsForOwn terminal Stands Ends reader writer = (words : List (List ℕ)) → AreWords Stands Ends words → ReadsForWords terminal words reader writer

-- Where files gave such bytes, a terminal shows what is written or not, memory is refused, reads fail with errors of such kinds, so many
-- of them come in a row, writes fail so, and what was written is passed on so.
module _ (Gives : List ℕ → List ℕ → Type 0) (terminal : Bool) (lacks : Type 0) {S : Type 0} (read_fails : ErrorKind → Type 0) (called : S → ℕ → Type 0)
    (write_failed passed : Type 0) where
  -- a fault was met, and is reported
  pub record IsFaulty (command : Command) (before after : Streams) (status : ℕ) (complaint : List ℕ) : Type 0 where
    pub fault : Fault
    pub stops : Stops Gives passed command fault before after
    pub cause : Caused lacks (StopsReading read_fails called) write_failed fault
    pub reported : complaint ≡ complaint_of fault
    pub failed : status ≡ 1

  -- What the words ask for is done.
  pub record IsDone (words : List (List ℕ)) (before after : Streams) (status : ℕ) (complaint : List ℕ) : Type 0 where
    pub command : Command
    pub asks : Asks terminal words command
    pub does : Succeeds Gives passed command before after status complaint ⊎ IsFaulty command before after status complaint

  -- Or they ask for nothing, or for the listing of several files; or there is no memory to read them.
  abbrev pub Obeys : List (List ℕ) → Streams → Streams → ℕ → List ℕ → Type 0
  Obeys words before after status complaint = IsDone words before after status complaint
      ⊎ ((IsOther terminal words ⊎ AsksSeveral terminal words) × IsUnread (refusal words) 2 before after status complaint)
      ⊎ (lacks × IsUnread (complaint_of Memory) 1 before after status complaint)

  -- A run on words, and on the words of the process.

  abbrev pub Runs : (said_failed said_passed : Type 0) → List (List ℕ) → Streams → Streams → Option (List ℕ) → Option (List ℕ) → ℕ → Type 0
  Runs = run.Runs Obeys

  module _ (Stands : ℕ → List ℕ → Type 0) (Ends : ℕ → Type 0) (Longer : ℕ → ℕ → Type 0) where
    abbrev pub ObeysOwn : Streams → Streams → ℕ → List ℕ → Type 0
    ObeysOwn = run.ObeysOwn Obeys Stands Ends Longer lacks usage (complaint_of Memory)

    abbrev pub RunsOwn : (said_failed said_passed : Type 0) → Streams → Streams → Option (List ℕ) → Option (List ℕ) → ℕ → Type 0
    RunsOwn = run.RunsOwn Obeys Stands Ends Longer lacks usage (complaint_of Memory)
