-- Where the frames of a stream stand.
use Rattle.std.specs.Prelude.{◌≡◌, ℕ, ◌+◌, ◌≤◌, Bool, List, [], ◌∷◌, length, drop, Result}
use Rattle.std.specs.declared.ops.Range.{Range}
use Rattle.pgp_base.specs.declared.error.Error.{Error}
use Rattle.pgp_message.specs.BackendMessage.{Message}
use Rattle.pgp_message.specs.Stream.{Frame, frame_bytes, BackendRun}

-- the places of frames, each right after the one before it, from `at` on
abbrev pub places_of : ℕ → List Frame → List (Range ℕ)
places_of at [] = []
places_of at (f ∷ frames) = record { start = at; end = at + length (frame_bytes f) } ∷ places_of (at + length (frame_bytes f)) frames

-- The places are those of the stream's frames, all of them, and what stands after the last is the stream's rest.
-- That the stream is read in one way alone is a law (`one_run` of `pgp_message`).
pub record IsRecording (bytes : List ℕ) (places : List (Range ℕ)) (stopped : Bool) (rest : ℕ) : Type 0 where
  pub results : List (Result Message Error)
  pub run : BackendRun bytes results stopped (drop rest bytes)
  pub cut : places ≡ places_of 0 run.run.frames
  pub within : rest ≤ length bytes
