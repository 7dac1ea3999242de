-- Recordings that differ in their secrets alone: cut into frames alike, each of which is like that of the other recording in its place.
use Rattle.std.specs.Prelude.{◌≡◌, ◌+◌, ℕ, Bool, List, [], ◌∷◌, ◌++◌, length}
use Rattle.pgtrace_session.specs.Common.{Ends, Marking, Sender, View, place_behind}
use Rattle.pgtrace_session.specs.Conversation.{Half, Known, ListsChunk, ListsFrame, Talk, begins, half_in, now_at, other, side_in}
use Rattle.pgtrace_session.specs.Marks.{mark}
use Rattle.pgtrace_session.specs.Recording.{Chunk, Records}
use Rattle.pgtrace_session.specs.Secrets.{AlikeIn}

-- frames of a side, each like that of the other bytes in its place, as far as is known there; and their lines
pub data AlikeFrames (view : View) (mark : List ℕ) (who : Sender) (start : ℕ) (from : Known) : (bytes others lines : List ℕ) → Known → Type 0 where
  NoneAlike : AlikeFrames view mark who start from [] [] [] from
  OneAlike : {bytes others lines : List ℕ} {here to : Known} (frame another text : List ℕ) → AlikeFrames view mark who start from bytes others lines here
      → ListsFrame view mark who (place_behind (start + length bytes)) here frame text to → AlikeIn (side_in who here) frame another → AlikeFrames view mark who start from (bytes ++ frame) (others ++ another) (lines ++ text) to

-- as much is known, and as much of each side is left
pub record AlikeHalves (half another : Half) : Type 0 where
  pub passed : another.passed ≡ half.passed
  pub rest : length another.rest ≡ length half.rest
  pub stopped : another.stopped ≡ half.stopped

pub record AlikeTalks (talk another : Talk) : Type 0 where
  pub known : another.known ≡ talk.known
  pub start : another.start ≡ talk.start
  pub halves : (who : Sender) → AlikeHalves (half_in who talk) (half_in who another)

-- The frames that are complete with a chunk are alike where it has these bytes in the place of its own, and as much is left, in which none is.
pub record AlikeChunk (view : View) (before then : Talk) (chunk : Chunk) (bytes text : List ℕ) (after later : Talk) : Type 0 where
  pub lists : ListsChunk view before chunk text after
  pub front : List ℕ
  pub whole : (half_in chunk.sender then).rest ++ bytes ≡ front ++ (half_in chunk.sender later).rest
  pub each : AlikeFrames view (mark view.style.form chunk.sender lists.time) chunk.sender (half_in chunk.sender before).passed (now_at chunk.micros before.known) lists.front front text after.known
  pub ending : Ends (side_in chunk.sender after.known) (half_in chunk.sender after).stopped (half_in chunk.sender later).rest
  pub same : half_in (other chunk.sender) later ≡ half_in (other chunk.sender) then
  pub left : AlikeTalks after later

-- and so chunk after chunk, with these lines
pub data AlikeChunks (view : View) (from : Talk) : (chunks others : List Chunk) → List ℕ → Talk → Talk → Type 0 where
  NoChunkAlike : AlikeChunks view from [] [] [] from from
  OneChunkAlike : {chunks others : List Chunk} {lines : List ℕ} {here there to too : Talk} (chunk : Chunk) (bytes text : List ℕ) → AlikeChunks view from chunks others lines here there
      → AlikeChunk view here there chunk bytes text to too → AlikeChunks view from (chunks ++ chunk ∷ []) (others ++ record { sender = chunk.sender; micros = chunk.micros; bytes = bytes } ∷ []) (lines ++ text) to too

-- two recordings of such chunks, with the same rest
pub record AlikeRecordings (view : View) (marking : Marking) (begun : Bool) (rest bytes another : List ℕ) : Type 0 where
  pub chunks : List Chunk
  pub others : List Chunk
  pub lines : List ℕ
  pub talk : Talk
  pub later : Talk
  pub one : Records bytes begun chunks rest
  pub two : Records another begun others rest
  pub alike : AlikeChunks view (begins marking) chunks others lines talk later
