-- Private: the front of the bytes as the code reads it. What stands there in the grammar's terms is `Stream`.
use Rattle.std.specs.Prelude.{◌≡◌, ℕ, ◌≤◌, List, ◌++◌, length, take, drop, Option, Some, None, Result, Ok, Err}
use Rattle.std.specs.Int.{w32, from_be_bytes}
use Rattle.pgp_base.specs.declared.error.Error.{Error}
use Rattle.pgp_base.specs.declared.error.Error.TheVariants as errors
use Rattle.pgp_message.specs.Stream.{Frame, frame_bytes, IsFrame, IsPartial, IsLengthFault}

-- the header of a complete frame as it is used: its tag, and how many bytes the frame takes
pub record Front : Type 0 where
  pub tag : ℕ
  pub total : ℕ

-- the length that the bytes announce after their tag
abbrev pub announced : List ℕ → ℕ
announced bytes = from_be_bytes w32 (take 4 (drop 1 bytes))

-- the frame itself
abbrev pub front_frame : Front → List ℕ → Frame
front_frame f bytes = record { tag = f.tag; payload = drop 5 (take f.total bytes) }

pub record IsFront (f : Front) (bytes : List ℕ) : Type 0 where
  pub whole : bytes ≡ frame_bytes (front_frame f bytes) ++ drop f.total bytes
  pub fits : IsFrame (front_frame f bytes)
  pub least : 5 ≤ f.total
  pub most : f.total ≤ length bytes

-- What stands at the front of the bytes.
abbrev pub Finds : List ℕ → Result (Option Front) Error → Type 0
Finds bytes (Ok None) = IsPartial bytes
Finds bytes (Ok (Some f)) = IsFront f bytes
Finds bytes (Err errors.InvalidLength) = IsLengthFault bytes
Finds bytes (Err e) = ⊥
