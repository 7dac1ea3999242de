-- What the program does for its words.
use Rattle.std.specs.Prelude.{◌≡◌, ◌≢◌, ⊤, ◌⊎◌, ◌↔◌, ℕ, true, false, List, [], ◌∷◌, Option, IfSome, Ok, Contains, codes}
use Rattle.std.specs.Io.KnownBytes.{Keeps, Appends, IsAtEnd}
use Rattle.std.specs.declared.io.ErrorKind.{ErrorKind}
use Rattle.hex.specs.Hex.{decode_sized}
use Rattle.pgp_auth.specs.Lexer.{Literal, Identifier, IsPlain, backslash}
use Rattle.pgp_auth.specs.Verifier.{verifier, verifier_text}
use Rattle.pgp_base.specs.Held.{Held}
use Rattle.pgtool_line.specs.declared.fault.Fault.{Fault}
use Rattle.pgtool_line.specs.declared.fault.Fault.TheVariants.{Memory, Read, Write}
use Rattle.pgwire_engines.specs.Output.{line, BackendOutput}
use Rattle.pgwire_engines.specs.ClientOutput.{ClientOutput}
use Rattle.pgtool_line.specs.Interruptions.{ReadFails}
use Rattle.pgtool_line.specs.Taken.{AppendsFront}
use Rattle.pgtool_line.specs.Run.{Streams, Caused, IsUnread}
use Rattle.pgtool_line.specs.Run as run

pub data Command : Type 0 where
  Client : Command
  Backend : Command
  Verifier : (password salt : List ℕ) → Command
  EscapeLiteral : (text : List ℕ) → Command
  EscapeIdentifier : (text : List ℕ) → Command

-- the words ask for it
abbrev pub Asks : List (List ℕ) → Command → Type 0
Asks words Client = words ≡ codes "client" ∷ []
Asks words Backend = words ≡ codes "backend" ∷ []
Asks words (Verifier password salt) = (digits : List ℕ) × (words ≡ codes "verifier" ∷ password ∷ digits ∷ []) × (decode_sized digits 16 ≡ Ok salt)
Asks words (EscapeLiteral text) = words ≡ codes "escape" ∷ codes "literal" ∷ text ∷ []
Asks words (EscapeIdentifier text) = words ≡ codes "escape" ∷ codes "identifier" ∷ text ∷ []

-- what is said on standard error

abbrev pub usage : List ℕ
usage = line (codes "usage: pgwire client | backend | verifier PASSWORD SALTHEX | escape literal|identifier TEXT")

abbrev pub complaint_of : Fault → List ℕ
complaint_of Memory = line (codes "pgwire: out of memory")
complaint_of Read = line (codes "pgwire: read failed")
complaint_of Write = line (codes "pgwire: write failed")

-- the fault of memory, where a growth of a list or of the buffer was refused
abbrev pub LacksFor : {Kept : Type 0} → Type 0 → (Held Kept → ℕ → Type 0) → Fault → Type 0
LacksFor lacks grows fault = (fault ≡ Memory) × (lacks ⊎ ((here : Held _) × (n : ℕ) × grows here n))

-- a string constant that is read as z under either setting of standard_conforming_strings, and is plain
-- exactly where z has no backslash
abbrev pub IsEscapedLiteral : List ℕ → List ℕ → Type 0
IsEscapedLiteral z text = Literal true text z × Literal false text z × (IsPlain text ↔ (¬ Contains z backslash))

-- What a command reads: all input; what prints reads nothing.
abbrev pub Reads : Command → Streams → Streams → Type 0
Reads Client before after = IsAtEnd after.input
Reads Backend before after = IsAtEnd after.input
Reads command before after = Keeps before.input after.input

-- What a command makes of its input, and the status.
abbrev pub Makes : Command → Streams → List ℕ → ℕ → Type 0
Makes Client before bytes status = IfSome before.input (λ script. ClientOutput script bytes status)
Makes Backend before bytes status = IfSome before.input (λ input. BackendOutput input bytes status)
Makes (Verifier password salt) before bytes status = (bytes ≡ line (verifier_text (verifier password salt 4096))) × (status ≡ 0)
Makes (EscapeLiteral z) before bytes status = ((text : List ℕ) × IsEscapedLiteral z text × (bytes ≡ line text)) × (status ≡ 0)
Makes (EscapeIdentifier z) before bytes status = ((text : List ℕ) × Identifier text z × (bytes ≡ line text)) × (status ≡ 0)

-- All of what the command makes was written, and nothing else.
pub record IsWritten (command : Command) (before after : Streams) (status : ℕ) : Type 0 where
  pub bytes : List ℕ
  pub meant : Makes command before bytes status
  pub written : Appends before.output after.output bytes

-- What a command does to the streams, with the status and what is to be said on standard error, unless it meets a fault: it reads
-- what it is to read, writes what it makes and has it passed on, and has nothing to say.
pub record Succeeds (passed : Type 0) (command : Command) (before after : Streams) (status : ℕ) (complaint : List ℕ) : Type 0 where
  pub read : Reads command before after
  pub output : IsWritten command before after status
  pub passed_on : passed
  pub silent : complaint ≡ []

-- Writing failed: a front of what the command makes was written, and nothing else.
pub record IsCut (command : Command) (before after : Streams) : Type 0 where
  pub bytes : List ℕ
  pub status : ℕ
  pub meant : Makes command before bytes status
  pub taken : AppendsFront before.output after.output bytes

-- Which faults a command can meet: what prints reads nothing.
abbrev pub Meets : Command → Fault → Type 0
Meets Client fault = ⊤
Meets Backend fault = ⊤
Meets command fault = fault ≢ Read

-- What a command reads where it meets a fault.
abbrev pub MayRead : Command → Streams → Streams → Type 0
MayRead Client before after = ⊤
MayRead Backend before after = ⊤
MayRead command before after = Keeps before.input after.input

-- the words ask for nothing that there is
abbrev pub IsOther : List (List ℕ) → Type 0
IsOther words = (command : Command) → ¬ Asks words command

-- Where memory is refused, reads fail with errors of such kinds, and writes fail so.
module _ (lacks : Type 0) (read_fails : ErrorKind → Type 0) (write_failed : Type 0) where
  -- A command stopped at a fault: nothing was written, unless writing failed.
  pub record Stops (command : Command) (before after : Streams) (fault : Fault) : Type 0 where
    pub met : Meets command fault
    pub cause : Caused lacks (ReadFails read_fails) write_failed fault
    pub input : MayRead command before after
    pub output : fault ≢ Write → Keeps before.output after.output
    pub cut : fault ≡ Write → IsCut command before after

  -- a fault was met, and is reported
  pub record IsFaulty (command : Command) (before after : Streams) (status : ℕ) (complaint : List ℕ) : Type 0 where
    pub fault : Fault
    pub stops : Stops command before after fault
    pub reported : complaint ≡ complaint_of fault
    pub failed : status ≡ 1

  -- What the words ask for is done, where what was written is then passed on so; or they ask for nothing, and the usage line is
  -- reported.
  module _ (passed : Type 0) where
    pub record IsDone (words : List (List ℕ)) (before after : Streams) (status : ℕ) (complaint : List ℕ) : Type 0 where
      pub command : Command
      pub asks : Asks words command
      pub does : Succeeds passed command before after status complaint ⊎ IsFaulty command before after status complaint

    abbrev pub Obeys : List (List ℕ) → Streams → Streams → ℕ → List ℕ → Type 0
    Obeys words before after status complaint = IsDone words before after status complaint ⊎ (IsOther words × IsUnread usage 2 before after status complaint)

    -- A run on words, and on the words of the process.

    abbrev pub Runs : (said_failed said_passed : Type 0) → List (List ℕ) → Streams → Streams → Option (List ℕ) → Option (List ℕ) → ℕ → Type 0
    Runs = run.Runs Obeys

    module _ (Stands : ℕ → List ℕ → Type 0) (Ends : ℕ → Type 0) (Longer : ℕ → ℕ → Type 0) where
      abbrev pub ObeysOwn : Streams → Streams → ℕ → List ℕ → Type 0
      ObeysOwn = run.ObeysOwn Obeys Stands Ends Longer lacks usage (complaint_of Memory)

      abbrev pub RunsOwn : (said_failed said_passed : Type 0) → Streams → Streams → Option (List ℕ) → Option (List ℕ) → ℕ → Type 0
      RunsOwn = run.RunsOwn Obeys Stands Ends Longer lacks usage (complaint_of Memory)
