-- What a stream's frames come to, in the words of its grammar.
use Rattle.std.specs.Prelude.{◌≡◌, ℕ, Bool, true, false, List, ◌++◌, length, Option, Some, None, Result, Ok}
use Rattle.pgp_base.specs.declared.error.Error.{Error}
use Rattle.pgp_message.specs.BackendMessage.{Message, DataRow}
use Rattle.pgp_message.specs.Parts.{CountedBytes}
use Rattle.pgp_message.specs.Stream.{BackendRun, Step, TakesFrame}
use Rattle.pgp_stream.specs.ServerStream.{Reading, HasRead}

-- A piece came, and these results were taken: whatever came and was taken before, all that was taken is what the
-- grammar gives for all bytes.
abbrev pub Completes : List ℕ → List (Result Message Error) → Reading → Reading → Type 0
Completes piece got old new = (bytes : List ℕ) (taken : List (Result Message Error)) → HasRead bytes taken old → HasRead (bytes ++ piece) (taken ++ got) new

-- the stream has so many frames; that it is read in one way alone is a law (`one_run` of `pgp_message`)
abbrev pub HasFrames : List ℕ → ℕ → Type 0
HasFrames bytes n = (results : List (Result Message Error)) × (stopped : Bool) × (rest : List ℕ) × BackendRun bytes results stopped rest × (n ≡ length results)

abbrev pub is_row : Result (Option Message) Error → Bool
is_row (Ok (Some (DataRow row))) = true
is_row read = false

-- A row stands at the front, and these bytes after it; or a step along the stream, which has all the memory that it needs,
-- gives no row.
abbrev pub FrontRow : List ℕ → Option (CountedBytes × List ℕ) → Type 0
FrontRow bytes (Some front) = TakesFrame bytes (Ok (DataRow front.0)) front.1
FrontRow bytes None = (read : Result (Option Message) Error) × (new : List ℕ) × Step ⊥ bytes read new × (is_row read ≡ false)
