-- The stream of a server: a relation between its bytes, the results of its frames, and what is left.
-- PostgreSQL manual, "Message Flow" and "Messaging Overview".
use Rattle.std.specs.Prelude.{◌≡◌, ℕ, ◌+◌, ◌<◌, ◌≤◌, ◌^◌, Bool, true, false, List, [], ◌∷◌, ◌++◌, length, Option, Some, None, Result, Ok, Err, ◌⊎◌, ◌==◌}
use Rattle.std.specs.List.{flat_map, list_any, AllByRecursion}
use Rattle.pgp_base.specs.Wire.{frame, uint32, IsBytes}
use Rattle.pgp_base.specs.declared.error.Error.{Error}
use Rattle.pgp_base.specs.declared.error.Error.TheVariants as errors
use Rattle.pgp_message.specs.BackendMessage.{Message, Body}

pub record Frame : Type 0 where
  pub tag : ℕ
  pub payload : List ℕ

abbrev pub frame_bytes : Frame → List ℕ
frame_bytes f = frame f.tag f.payload

-- a frame is made of bytes, and its length, its own four bytes counted, is an unsigned 32-bit number
pub record IsFrame (f : Frame) : Type 0 where
  pub tag : f.tag < 256
  pub payload : IsBytes f.payload
  pub fits : length f.payload + 4 < 2 ^ 32

-- the bytes begin with a header: a tag, and the length of what follows the tag, its own four bytes counted
pub record BeginsWithHeader (bytes : List ℕ) : Type 0 where
  pub tag : ℕ
  pub len : ℕ
  pub rest : List ℕ
  pub fits : len < 2 ^ 32
  pub parts : bytes ≡ tag ∷ uint32 len ++ rest

-- the front of a frame of which bytes are missing
pub record IsUnfinished (bytes : List ℕ) : Type 0 where
  pub header : BeginsWithHeader bytes
  pub least : 4 ≤ header.len
  pub missing : length header.rest + 4 < header.len

-- too short for a header, or a partial frame
abbrev pub IsPartial : List ℕ → Type 0
IsPartial bytes = (length bytes < 5) ⊎ IsUnfinished bytes

-- a length that is too small to count itself
pub record IsLengthFault (bytes : List ℕ) : Type 0 where
  pub header : BeginsWithHeader bytes
  pub small : header.len < 4

-- what stands where reading ends: a length fault stopped it, or it waits for more
abbrev pub IsEnding : Bool → List ℕ → Type 0
IsEnding false rest = IsPartial rest
IsEnding true rest = IsLengthFault rest

-- the result of each frame
abbrev pub Bodies : List Frame → List (Result Message Error) → Type 0
Bodies [] [] = Unit {0}
Bodies [] (r ∷ results) = ⊥
Bodies (f ∷ frames) [] = ⊥
Bodies (f ∷ frames) (r ∷ results) = Body f.tag f.payload r × Bodies frames results

-- The bytes are frames with these results, and then the rest.
pub record Frames (bytes : List ℕ) (results : List (Result Message Error)) (rest : List ℕ) : Type 0 where
  pub frames : List Frame
  pub whole : bytes ≡ flat_map frame_bytes frames ++ rest
  pub each : AllByRecursion IsFrame frames
  pub bodies : Bodies frames results

-- A whole stream: the results of its frames, and a rest at which reading stopped or waits for more.
pub record BackendRun (bytes : List ℕ) (results : List (Result Message Error)) (stopped : Bool) (rest : List ℕ) : Type 0 where
  pub run : Frames bytes results rest
  pub ending : IsEnding stopped rest

-- the front of old is a frame with this result, and new is what follows it
pub record TakesFrame (old : List ℕ) (r : Result Message Error) (new : List ℕ) : Type 0 where
  pub first : Frame
  pub whole : old ≡ frame_bytes first ++ new
  pub fits : IsFrame first
  pub body : Body first.tag first.payload r

-- the bytes begin with a complete frame
pub record BeginsWithFrame (bytes : List ℕ) : Type 0 where
  pub first : Frame
  pub rest : List ℕ
  pub whole : bytes ≡ frame_bytes first ++ rest
  pub fits : IsFrame first

-- The tags of messages that keep bytes of their frames: those with texts, lists, keys or data.
abbrev pub keeping_tags : List ℕ
keeping_tags = 65 ∷ 67 ∷ 68 ∷ 69 ∷ 71 ∷ 72 ∷ 75 ∷ 78 ∷ 83 ∷ 84 ∷ 100 ∷ 116 ∷ 118 ∷ []

-- A message of this tag keeps bytes of its frame. An authentication request (82, `R`) says by its code: 8, or 10 to 12, which have
-- the bytes of an exchange or the names of mechanisms.
abbrev pub KeepsBytes : ℕ → List ℕ → Type 0
KeepsBytes tag payload = (list_any (λ t. t == tag) keeping_tags ≡ true)
    ⊎ ((tag ≡ 82) × (code : ℕ) × (rest : List ℕ) × (payload ≡ uint32 code ++ rest) × (code < 2 ^ 32) × ((code ≡ 8) ⊎ ((10 ≤ code) × (code ≤ 12))))

-- the bytes begin with the complete frame of such a message
pub record BeginsWithKept (bytes : List ℕ) : Type 0 where
  pub first : Frame
  pub rest : List ℕ
  pub whole : bytes ≡ frame_bytes first ++ rest
  pub fits : IsFrame first
  pub keeps : KeepsBytes first.tag first.payload

-- One step along a stream. Memory is wanted only for a message that keeps bytes of its frame; `lacks` says that it was refused.
abbrev pub Step : Type 0 → List ℕ → Result (Option Message) Error → List ℕ → Type 0
Step lacks old (Ok None) new = IsPartial old × (new ≡ old)
Step lacks old (Ok (Some m)) new = TakesFrame old (Ok m) new
Step lacks old (Err errors.InvalidLength) new = IsLengthFault old × (new ≡ old)
Step lacks old (Err errors.OutOfMemory) new = BeginsWithKept old × lacks × (new ≡ old)
Step lacks old (Err e) new = TakesFrame old (Err e) new
