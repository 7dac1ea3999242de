-- Whole frames that are found at the front of bytes, and then read where they stand.
use Rattle.std.specs.Prelude.{◌≡◌, ℕ, ◌+◌, ◌-◌, ◌^◌, ◌<◌, ◌≤◌, min, Bool, List, [], ◌++◌, length, take, drop, Result}
use Rattle.std.specs.List.{flat_map, AllByRecursion}
use Rattle.pgp_base.specs.declared.error.Error.{Error}
use Rattle.pgp_message.specs.BackendMessage.{Message}
use Rattle.pgp_message.specs.Remembered.{Memory, header_of, count_of}
use Rattle.pgp_message.specs.Stream.{Frame, frame_bytes, IsFrame, IsEnding, Frames}

-- How many bytes complete frames take, how many they are, and whether a length fault stands after
-- them.
pub record Found : Type 0 where
  pub len : ℕ
  pub count : ℕ
  pub stopped : Bool

-- the bytes are so many complete frames, and nothing else
pub record AreFrames (bytes : List ℕ) (n : ℕ) : Type 0 where
  pub frames : List Frame
  pub whole : bytes ≡ flat_map frame_bytes frames
  pub each : AllByRecursion IsFrame frames
  pub count : n ≡ length frames

-- The first bytes are so many complete frames, and after them stands what ends them.
pub record FindsFrames (bytes : List ℕ) (found : Found) : Type 0 where
  pub within : found.len ≤ length bytes
  pub front : AreFrames (take found.len bytes) found.count
  pub ending : IsEnding found.stopped (drop found.len bytes)

-- Frames were found, and the header after them is remembered. With the header that was remembered before, those that
-- were counted are one for each frame and that one; the count stays at the greatest u64.
pub record FindsAll (bytes : List ℕ) (old new : Memory) (found : Found) : Type 0 where
  pub finds : FindsFrames bytes found
  pub header : new.header ≡ header_of (drop found.len bytes)
  pub read : ℕ
  pub one_each : count_of old.header + read ≡ found.count + count_of new.header
  pub counted : old.headers < 2 ^ 64 → new.headers ≡ min (old.headers + read) (2 ^ 64 - 1)

-- so many frames were all of the bytes, and their results joined the list
pub record TakesEach (bytes : List ℕ) (n : ℕ) (before after : List (Result Message Error)) : Type 0 where
  pub more : List (Result Message Error)
  pub grown : after ≡ before ++ more
  pub frames : Frames bytes more []
  pub count : length more ≡ n

-- the results of some frames at the front of the bytes joined the list
pub record TakesSome (bytes : List ℕ) (before after : List (Result Message Error)) : Type 0 where
  pub more : List (Result Message Error)
  pub grown : after ≡ before ++ more
  pub left : List ℕ
  pub frames : Frames bytes more left
