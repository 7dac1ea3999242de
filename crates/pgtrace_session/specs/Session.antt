-- The listing of a recording, as it comes.
use Rattle.std.specs.Prelude.{◌≡◌, ◌≢◌, ◌≤◌, ◌⊎◌, ⊤, ℕ, Bool, true, false, List, [], ◌∷◌, ◌++◌, length, Option}
use Rattle.pgtrace_session.specs.Common.{Appends, Consumes, IsAtEnd, Keeps, Streams, AppendsFront, Fault, Read, hint_of, View, End, Whole, Cut, NoChunk, NoRecording, Marking}
use Rattle.pgtrace_session.specs.Conversation.{ListsChunks, Talk, begins, last_lines, left}
use Rattle.pgtrace_session.specs.Recording.{Chunk, EndsBy, IsPartial, Records, complaint_of, magic}

-- With a table no line of a message is written: its name would have to be empty.
abbrev pub summarized : (summed : Bool) → View → View
summarized true view = record view { only = [] ∷ [] }
summarized false view = view

-- These bytes are the beginning of a recording, the chunks, and a rest; and these are the lines of the chunks.
pub record HasLines (view : View) (marking : Marking) (bytes : List ℕ) (begun : Bool) (rest lines : List ℕ) (talk : Talk) : Type 0 where
  pub chunks : List Chunk
  pub records : Records bytes begun chunks rest
  pub each : ListsChunks view (begins marking) chunks lines talk

-- The listing of a recording that ends so: the lines of its chunks, and a last line for each side of which bytes are left.
pub record IsListing (view : View) (marking : Marking) (bytes : List ℕ) (end : End) (output : List ℕ) : Type 0 where
  pub begun : Bool
  pub rest : List ℕ
  pub lines : List ℕ
  pub talk : Talk
  pub each : HasLines view marking bytes begun rest lines talk
  pub ending : EndsBy begun rest end
  pub text : output ≡ lines ++ last_lines view talk

-- what is said on standard error: why bytes of a side may be left, and how the recording ends
abbrev pub said_of : Talk → End → List ℕ
said_of talk end = hint_of true talk.known.client (left talk.client) ++ hint_of true talk.known.server (left talk.server) ++ complaint_of end

-- Nothing more is read where no chunk comes any more, nor of what is no recording, once as many of its bytes came as one begins with.
abbrev pub IsReadTo : End → (rest : List ℕ) → (input : Option (List ℕ)) → Type 0
IsReadTo Whole rest input = IsAtEnd input
IsReadTo Cut rest input = IsAtEnd input
IsReadTo NoChunk rest input = ⊤
IsReadTo NoRecording rest input = IsAtEnd input ⊎ (length magic ≤ length rest)

-- The recording was read to its end, its listing was written, and nothing else; and this is to be said.
pub record WritesListing (view : View) (marking : Marking) (before after : Streams) (end : End) (said : List ℕ) : Type 0 where
  pub bytes : List ℕ
  pub output : List ℕ
  pub received : Consumes before.input after.input bytes
  pub is : IsListing view marking bytes end output
  pub all : IsReadTo end is.rest after.input
  pub written : Appends before.output after.output output
  pub why : said ≡ said_of is.talk end

-- more of a recording is awaited that has this rest
abbrev pub Awaits : (begun : Bool) → List ℕ → Type 0
Awaits false rest = (more : List ℕ) → rest ≢ magic ++ more
Awaits true rest = IsPartial rest

-- All lines of what came so far were written.
pub record WasListed (view : View) (marking : Marking) (before after : Streams) : Type 0 where
  pub bytes : List ℕ
  pub begun : Bool
  pub rest : List ℕ
  pub lines : List ℕ
  pub talk : Talk
  pub received : Consumes before.input after.input bytes
  pub each : HasLines view marking bytes begun rest lines talk
  pub waits : Awaits begun rest
  pub written : Appends before.output after.output lines

-- A front of the lines of what came was written.
pub record CutsLines (view : View) (marking : Marking) (before after : Streams) : Type 0 where
  pub bytes : List ℕ
  pub begun : Bool
  pub rest : List ℕ
  pub lines : List ℕ
  pub talk : Talk
  pub received : Consumes before.input after.input bytes
  pub each : HasLines view marking bytes begun rest lines talk
  pub written : AppendsFront before.output after.output lines

-- The recording was read to its end, and a front of its listing was written.
pub record CutsListing (view : View) (marking : Marking) (before after : Streams) : Type 0 where
  pub bytes : List ℕ
  pub end : End
  pub output : List ℕ
  pub received : Consumes before.input after.input bytes
  pub is : IsListing view marking bytes end output
  pub all : IsReadTo end is.rest after.input
  pub written : AppendsFront before.output after.output output

abbrev pub IsCutShort : View → Marking → Streams → Streams → Type 0
IsCutShort view marking before after = CutsLines view marking before after ⊎ CutsListing view marking before after

-- A front of the listing was written; and where a read failed, nothing of what came is held back: its lines were written and passed on.
abbrev pub BreaksOff : Type 0 → View → (marking : Marking) → Fault → Streams → Streams → Type 0
BreaksOff passed view marking Read before after = WasListed view marking before after × (Keeps before.output after.output ⊎ passed)
BreaksOff passed view marking fault before after = IsCutShort view marking before after

-- All lines of what came from such a reader stand in the writer, and are passed on, so that it may be read again.
pub record IsReady {R W : Type 0} (remaining : R → Option (List ℕ)) (contents : W → Option (List ℕ)) (Passed : W → Type 0) (view : View) (marking : Marking) (reader : R) (writer : W) (now : R) : Type 0 where
  pub out : W
  pub listed : WasListed view marking (record { input = remaining reader; output = contents writer }) (record { input = remaining now; output = contents out })
  pub passed : Keeps (contents writer) (contents out) ⊎ Passed out

abbrev pub ReadsWhenReady : {R W : Type 0} → (R → Option (List ℕ)) → (W → Option (List ℕ)) → (W → Type 0) → (R → Type 0) → View → (marking : Marking) → R → W → Type 0
ReadsWhenReady {R} remaining contents Passed MayRead view marking reader writer = (now : R) → IsReady remaining contents Passed view marking reader writer now → MayRead now
