-- What was read of a server's stream that comes in pieces.
use Rattle.std.specs.Prelude.{◌≡◌, ℕ, ◌+◌, Bool, true, false, List, [], ◌++◌, length, Result, Ok, Err}
use Rattle.pgp_base.specs.declared.error.Error.{Error}
use Rattle.pgp_base.specs.Memory.{WantsMemory}
use Rattle.pgp_message.specs.BackendMessage.{Message}
use Rattle.pgp_message.specs.Remembered.{header_of, headers_read}
use Rattle.pgp_message.specs.Stream.{BackendRun}

-- What a parser of pieces shows: the results that weren't handed out yet, whether a length fault stopped
-- it, what is left to read, how many headers it has read, and whether it failed for lack of memory.
pub record Reading : Type 0 where
  pub results : List (Result Message Error)
  pub stopped : Bool
  pub rest : List ℕ
  pub headers : ℕ
  pub failed : Bool

-- What is reported of a whole stream.
pub record Reported : Type 0 where
  pub results : List (Result Message Error)
  pub stopped : Bool
  pub rest : List ℕ

-- These bytes came. Their results are those that were taken and those that weren't, and one header was read
-- for each, and one more where the rest has one.
pub record HasRead (bytes : List ℕ) (taken : List (Result Message Error)) (now : Reading) : Type 0 where
  pub run : BackendRun bytes (taken ++ now.results) now.stopped now.rest
  pub headers : now.headers ≡ headers_read (length (taken ++ now.results)) (header_of now.rest)

-- of any stream that begins with the bytes, these results are the first
abbrev pub AreFirst : List ℕ → List (Result Message Error) → Type 0
AreFirst bytes results = (all : List (Result Message Error)) (stopped : Bool) (rest : List ℕ) → BackendRun bytes all stopped rest
    → (others : List (Result Message Error)) × (all ≡ results ++ others)

-- A piece came, and was read.
pub record GoesOn (piece : List ℕ) (old new : Reading) : Type 0 where
  pub sound : new.failed ≡ false
  pub more : List (Result Message Error)
  pub grown : new.results ≡ old.results ++ more
  pub reads : (bytes : List ℕ) (taken : List (Result Message Error)) → BackendRun bytes (taken ++ old.results) old.stopped old.rest → BackendRun (bytes ++ piece) (taken ++ new.results) new.stopped new.rest
  pub counts : (taken : ℕ) → old.headers ≡ headers_read (taken + length old.results) (header_of old.rest) → new.headers ≡ headers_read (taken + length new.results) (header_of new.rest)

-- A piece came, and memory was refused: the results are the first of the stream's, as far as it was read. Of a stream that a length fault
-- had stopped the rest and the count of headers are as they were; of any other both are dropped, since frames that weren't read are gone.
pub record Fails (piece : List ℕ) (old new : Reading) : Type 0 where
  pub failed : new.failed ≡ true
  pub stopped : new.stopped ≡ old.stopped
  pub kept : old.stopped ≡ true → (new.rest ≡ old.rest) × (new.headers ≡ old.headers)
  pub dropped : old.stopped ≡ false → (new.rest ≡ []) × (new.headers ≡ 0)
  pub more : List (Result Message Error)
  pub grown : new.results ≡ old.results ++ more
  pub reads : (bytes : List ℕ) (taken : List (Result Message Error)) → BackendRun bytes (taken ++ old.results) old.stopped old.rest → AreFirst (bytes ++ piece) (taken ++ new.results)

-- What feeding a piece comes to. `lacks` says that memory was refused.
abbrev pub Feeds : List ℕ → Type 0 → Reading → Reading → Result (Unit {0}) Error → Type 0
Feeds piece lacks old new (Ok done) = GoesOn piece old new
Feeds piece lacks old new (Err e) = WantsMemory lacks e × Fails piece old new

-- The results so far are handed out, and none is kept.
pub record HandsOut (results : List (Result Message Error)) (old new : Reading) : Type 0 where
  pub all : results ≡ old.results
  pub kept : new ≡ record old { results = [] }
  pub reads : (bytes : List ℕ) (taken : List (Result Message Error)) → HasRead bytes taken old → HasRead bytes (taken ++ results) new
