-- Private: a part of a recording and a frame at a time.
use Rattle.std.specs.Prelude.{◌≡◌, ◌≢◌, ◌⊎◌, ℕ, ◌≤◌, ◌<◌, ◌+◌, Bool, true, false, ◌==◌, if◌then◌else◌, List, [], ◌∷◌, ◌++◌, length, Option, None, Some}
use Rattle.pgp_client.specs.Talk as dialogue
use Rattle.pgp_value_text.specs.Calendar.{ShowsDay}
use Rattle.pgtrace_session.specs.Common.{Kept, Asked, Form, Columns, Style, place_behind, Side, Ends, View, Sender, Client, Server, Start, Dated, End, Whole, Cut, NoChunk, NoRecording}
use Rattle.pgtrace_lines.specs.declared.frame.Next.{Next}
use Rattle.pgtrace_lines.specs.declared.frame.Next.TheVariants as next
use Rattle.pgtrace_lines.specs.Sides as side
use Rattle.pgtrace_lines.specs.Steps.{ListsNext}
use Rattle.pgtrace_session.specs.declared.chunk.Chunk as code
use Rattle.pgtrace_session.specs.declared.chunk.Part.{Part}
use Rattle.pgtrace_session.specs.declared.chunk.Part.TheVariants as part
use Rattle.pgtrace_session.specs.declared.connection.Half as code_half
use Rattle.pgtrace_session.specs.declared.connection.Talk as code_talk
use Rattle.pgtrace_session.specs.declared.state.Known as code_known
use Rattle.pgtrace_session.specs.declared.numbers.Numbers as code_numbers
use Rattle.std.specs.Borrow.{Bor}
use Rattle.std.specs.declared.collections.VecDeque.{VecDeque}
use Rattle.pgtrace_session.specs.Conversation.{Half, ListsChunk, Known, Talk, ListsFrame, ListsFrames, is_replicating, side_in, with_side}
use Rattle.pgtrace_session.specs.Marks.{ShowsTime, day_of}
use Rattle.pgtrace_session.specs.Requests.{Numbers}
use Rattle.pgtrace_session.specs.TypesKept.{types_in}
use Rattle.pgtrace_session.specs.Recording.{Chunk, IsChunk, IsNoChunk, IsPartial, IsShort, arrow, chunk_bytes, magic}

-- ---- parts of a recording

abbrev pub chunk_of : code.Chunk → Chunk
chunk_of c = record { sender = c.sender; micros = c.micros; bytes = c.bytes.now }

abbrev pub sender_of : ℕ → Option Sender
sender_of byte = if byte == 62 then Some Client else if byte == 60 then Some Server else None

-- a whole chunk stands first
pub record TakesChunk (chunk : Chunk) (old new : List ℕ) : Type 0 where
  pub is : IsChunk chunk
  pub whole : old ≡ chunk_bytes chunk ++ new

-- after the first byte of a chunk
abbrev pub TakesRest : Sender → List ℕ → Option (code.Chunk × Bor (List ℕ)) → Type 0
TakesRest who bytes None = (length bytes < 12) ⊎ IsShort bytes
TakesRest who bytes (Some x) = (x.0.sender ≡ who) × TakesChunk (chunk_of x.0) (arrow who ∷ bytes) x.1.now

-- what stands first, where the beginning was read or not, and what stands after it
abbrev pub TakesPart : (begun : Bool) → List ℕ → Part → List ℕ → Type 0
TakesPart false old part.Magic new = old ≡ magic ++ new
TakesPart false old (part.Chunk c) new = ⊥
TakesPart false old part.Waits new = (new ≡ old) × ((more : List ℕ) → old ≢ magic ++ more)
TakesPart false old part.Stops new = (new ≡ old) × (length magic ≤ length old) × ((more : List ℕ) → old ≢ magic ++ more)
TakesPart true old part.Magic new = ⊥
TakesPart true old (part.Chunk c) new = TakesChunk (chunk_of c) old new
TakesPart true old part.Waits new = (new ≡ old) × IsPartial old
TakesPart true old part.Stops new = (new ≡ old) × IsNoChunk old

abbrev pub end_of : (begun stopped : Bool) → List ℕ → End
end_of false stopped bytes = NoRecording
end_of true true bytes = NoChunk
end_of true false [] = Whole
end_of true false (first ∷ rest) = Cut

-- ---- times

abbrev pub is_date : Form → Start → Bool
is_date Columns Dated = true
is_date form start = false

-- the date of a time was added
abbrev pub AddsDay : ℕ → (old new : List ℕ) → Type 0
AddsDay micros old new = (day : List ℕ) × ShowsDay (day_of micros) day × (new ≡ old ++ day)

-- a time was
abbrev pub AddsTime : Form → Start → ℕ → (old new : List ℕ) → Type 0
AddsTime form start micros old new = (time : List ℕ) × ShowsTime form start micros time × (new ≡ old ++ time)

-- as its date and the time of day
abbrev pub AddsInstant : ℕ → (old new : List ℕ) → Type 0
AddsInstant micros old new = AddsTime Columns Dated micros old new

-- ---- what is kept

abbrev pub talk_in : {A : Type 0} → Option (Kept (VecDeque Asked A)) → Option dialogue.Talk
talk_in None = None
talk_in (Some kept) = Some (dialogue.shown (λ q. q.items) kept)

abbrev pub numbers_of : {A : Type 0} → code_numbers.Numbers A → Numbers
numbers_of numbers = record { dialogue = talk_in numbers.dialogue; sent = numbers.sent.items; now = numbers.now; summary = numbers.summary }

abbrev pub numbers_in : {A : Type 0} → Option (code_numbers.Numbers A) → Option Numbers
numbers_in None = None
numbers_in (Some numbers) = Some (numbers_of numbers)

abbrev pub known_of : {A : Type 0} → code_known.Known A → Known
known_of known = record { client = side.Client known.opened known.kinds.items (is_replicating known.phase); server = side.Server known.phase; requests = known.requests.items; numbers = numbers_in known.numbers; marked = known.marked; types = types_in known.types }

-- the line of the next frame of a side; of the other one the same is known
pub record KnowsNext (style : Style) (sender : Sender) (place : ℕ) (old : Known) (bytes behind line : List ℕ) (new : Known) (next : Next) : Type 0 where
  pub listed : ListsNext style place (side_in sender old) bytes behind line (side_in sender new) next
  pub same : new ≡ with_side sender old (side_in sender new)
  pub kept : with_side sender old (side_in sender old) ≡ old

-- the bytes begin with a frame, which has its line after the old ones, and then come the new ones
pub record ListsOneFrame (view : View) (mark : List ℕ) (sender : Sender) (place : ℕ) (here : Known) (bytes behind old new : List ℕ) (to : Known) : Type 0 where
  pub frame : List ℕ
  pub text : List ℕ
  pub whole : bytes ≡ frame ++ behind
  pub some : 0 < length frame
  pub lists : ListsFrame view mark sender place here frame text to
  pub grown : new ≡ old ++ text

-- nothing was taken, and nothing stands first that could be
pub record ListsNoFrame (sender : Sender) (stopped : Bool) (here : Known) (bytes behind old new : List ℕ) (to : Known) : Type 0 where
  pub same : behind ≡ bytes
  pub ending : Ends (side_in sender here) stopped bytes
  pub known : to ≡ here
  pub none : new ≡ old

-- a frame has its line after the old ones; or none is whole, or nothing says where the next one begins
abbrev pub ListsNextFrame : View → (mark : List ℕ) → Sender → (place : ℕ) → Known → (bytes behind old new : List ℕ) → Known → Next → Type 0
ListsNextFrame view mark sender place here bytes behind old new to (next.Line name) = ListsOneFrame view mark sender place here bytes behind old new to
ListsNextFrame view mark sender place here bytes behind old new to next.Waits = ListsNoFrame sender false here bytes behind old new to
ListsNextFrame view mark sender place here bytes behind old new to next.Stops = ListsNoFrame sender true here bytes behind old new to

-- The frames of the front have their lines after the old ones, and no whole one is left.
pub record ListsAllFrames (view : View) (mark : List ℕ) (sender : Sender) (start : ℕ) (from : Known) (bytes front rest : List ℕ) (stopped : Bool) (to : Known) (old new : List ℕ) : Type 0 where
  pub lines : List ℕ
  pub whole : bytes ≡ front ++ rest
  pub each : ListsFrames view mark sender start from front lines to
  pub ending : Ends (side_in sender to) stopped rest
  pub text : new ≡ old ++ lines

-- What is kept of a side: bytes that aren't listed, the place at which they stand, whether nothing says where a frame begins in them, and how many they
-- are, as far as a number of the machine reports it.
pub record HeldHalf : Type 0 where
  pub bytes : List ℕ
  pub place : ℕ
  pub stopped : Bool
  pub left : ℕ

abbrev pub half_of : {A : Type 0} → code_half.Half A → HeldHalf
half_of half = record { bytes = half.bytes.items; place = half.place; stopped = half.stopped; left = half.left }

-- It is kept of a side of which so much was listed. Where that is stopped, the bytes are counted alone.
pub record Holds (side : Side) (held : HeldHalf) (half : Half) : Type 0 where
  pub ending : Ends side half.stopped half.rest
  pub stopped : held.stopped ≡ half.stopped
  pub count : held.left ≡ place_behind (length half.rest)
  pub place : held.place ≡ place_behind half.passed
  pub bytes : half.stopped ≡ false → held.bytes ≡ half.rest

-- what is kept of both
pub record HeldTalk : Type 0 where
  pub known : Known
  pub client : HeldHalf
  pub server : HeldHalf
  pub start : Start

abbrev pub kept_of : {A : Type 0} → code_talk.Talk A → HeldTalk
kept_of talk = record { known = known_of talk.known; client = half_of talk.client; server = half_of talk.server; start = talk.start }

pub record Keeps (held : HeldTalk) (talk : Talk) : Type 0 where
  pub known : held.known ≡ talk.known
  pub client : Holds talk.known.client held.client talk.client
  pub server : Holds talk.known.server held.server talk.server
  pub start : held.start ≡ talk.start

-- These bytes, after so many others, are what is to be listed of a side. All frames at their front were, and this is kept of what is left.
pub record ListsBytes (view : View) (mark : List ℕ) (sender : Sender) (from : Known) (bytes : List ℕ) (start : ℕ) (to : Known) (held : HeldHalf) (old new : List ℕ) : Type 0 where
  pub front : List ℕ
  pub lines : List ℕ
  pub half : Half
  pub whole : bytes ≡ front ++ half.rest
  pub each : ListsFrames view mark sender start from front lines to
  pub holds : Holds (side_in sender to) held half
  pub passed : half.passed ≡ start + length front
  pub text : new ≡ old ++ lines

-- a chunk was listed, and this is kept
pub record ListsChunkTo (view : View) (before : Talk) (chunk : Chunk) (held : HeldTalk) (old new : List ℕ) : Type 0 where
  pub after : Talk
  pub text : List ℕ
  pub lists : ListsChunk view before chunk text after
  pub keeps : Keeps held after
  pub grown : new ≡ old ++ text
