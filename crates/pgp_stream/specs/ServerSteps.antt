-- Private: what a parser of pieces remembers, and how it takes the frames of a piece, step by step. `Feeds` of `ServerStream` is what a
-- call comes to.
use Rattle.std.specs.Prelude.{◌≡◌, ℕ, ◌+◌, ◌<◌, ◌≤◌, Bool, true, false, List, [], ◌∷◌, ◌++◌, length, take, Result}
use Rattle.pgp_base.specs.declared.error.Error.{Error}
use Rattle.pgp_message.specs.BackendMessage.{Message}
use Rattle.pgp_message.specs.Remembered.{Memory, Fits, header_of, headers_read}
use Rattle.pgp_message.specs.Stream.{Frames, IsEnding}

-- While it hasn't failed it remembers the header of its rest; where it was stopped there is one. It has failed only where memory was
-- refused, as `lacks` says.
pub record IsSound (lacks : Type 0) (memory : Memory) (failed stopped : Bool) (rest : List ℕ) : Type 0 where
  pub header : failed ≡ false → memory.header ≡ header_of rest
  pub fault : failed ≡ false → stopped ≡ true → 5 ≤ length rest
  pub cause : failed ≡ true → lacks

-- frames were read between two buffers, with the results that were added, and each header once
pub record Takes (old new : List ℕ) (before after : List (Result Message Error)) (m n : Memory) : Type 0 where
  pub more : List (Result Message Error)
  pub grown : after ≡ before ++ more
  pub frames : Frames old more new
  pub fits : Fits n new
  pub counted : (k : ℕ) → m.headers ≡ headers_read k m.header → n.headers ≡ headers_read (k + length more) n.header

-- no frame is left
pub record TakesAll (old new : List ℕ) (before after : List (Result Message Error)) (m n : Memory) (stopped : Bool) : Type 0 where
  pub takes : Takes old new before after m n
  pub ending : IsEnding stopped new
  pub header : n.header ≡ header_of new

-- So many bytes of a piece moved after what is kept: none where nothing is kept, else at least one where one is there.
pub record Moves (old new piece : List ℕ) (moved : ℕ) : Type 0 where
  pub most : moved ≤ length piece
  pub grown : new ≡ old ++ take moved piece
  pub none : old ≡ [] → moved ≡ 0
  pub some : 0 < length old → 0 < length piece → 0 < moved

-- what is read next: what is kept, or the piece where nothing is kept
abbrev pub kept_or_piece : List ℕ → List ℕ → List ℕ
kept_or_piece [] piece = piece
kept_or_piece (byte ∷ kept) piece = byte ∷ kept

-- All frames were taken of what was kept and of the first bytes of the piece, so many as were used: all where nothing was kept, else none.
pub record TakesPart (old new piece : List ℕ) (before after : List (Result Message Error)) (m n : Memory) (used : ℕ) (stopped : Bool) : Type 0 where
  pub most : used ≤ length piece
  pub all : TakesAll (old ++ take used piece) new before after m n stopped
  pub last : old ≡ [] → used ≡ length piece
  pub kept : 0 < length old → used ≡ 0
