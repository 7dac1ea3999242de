-- Private: what a piece of a recording adds to its listing.
use Rattle.std.specs.Prelude.{◌≡◌, ◌≢◌, ◌≤◌, ℕ, Bool, true, false, List, [], ◌++◌, length, Option}
use Rattle.pgtrace_session.specs.Common.{Appends, AppendsFront, Consumes, Streams, View, Client, Server, End, Marking, Tally, hint_of}
use Rattle.pgtrace_session.specs.Requests.{summary_in, unnumbered}
use Rattle.pgtrace_session.specs.Conversation.{Talk, at_first, first_start, last_of, told_by}
use Rattle.pgtrace_session.specs.Recording.{IsNoChunk, IsPartial, complaint_of, magic}
use Rattle.pgtrace_session.specs.Session.{HasLines, IsReadTo}
use Rattle.pgtrace_session.specs.Several.{AddsRecording}
use Rattle.pgtrace_session.specs.Steps.{HeldHalf, HeldTalk, Keeps}
use Rattle.pgtrace_session.specs.Tables.{ending_by}

-- what came was listed, but for this rest, and this is kept of both sides
pub record Tracks (view : View) (marking : Marking) (bytes lines : List ℕ) (begun : Bool) (held : HeldTalk) (rest : List ℕ) : Type 0 where
  pub talk : Talk
  pub each : HasLines view marking bytes begun rest lines talk
  pub keeps : Keeps held talk

-- no chunk is whole in the rest; or no chunk comes there
abbrev pub Stays : (begun stopped : Bool) → List ℕ → Type 0
Stays true false rest = IsPartial rest
Stays true true rest = IsNoChunk rest
Stays false false rest = (more : List ℕ) → rest ≢ magic ++ more
Stays false true rest = (length magic ≤ length rest) × ((more : List ℕ) → rest ≢ magic ++ more)

-- some chunks more were listed, and their lines stand after the old ones
pub record TracksTo (view : View) (marking : Marking) (bytes lines : List ℕ) (begun : Bool) (held : HeldTalk) (rest old new : List ℕ) : Type 0 where
  pub added : List ℕ
  pub tracks : Tracks view marking bytes (lines ++ added) begun held rest
  pub text : new ≡ old ++ added

-- all that are whole were
pub record ListsAllChunks (view : View) (marking : Marking) (bytes lines : List ℕ) (begun stopped : Bool) (held : HeldTalk) (rest old new : List ℕ) : Type 0 where
  pub to : TracksTo view marking bytes lines begun held rest old new
  pub stays : Stays begun stopped rest

-- A piece came, and all chunks that are whole with it were listed.
pub record ListsPiece (view : View) (marking : Marking) (bytes lines : List ℕ) (begun stopped : Bool) (held : HeldTalk) (rest : List ℕ) (old new : Option (List ℕ)) : Type 0 where
  pub added : List ℕ
  pub tracks : Tracks view marking bytes (lines ++ added) begun held rest
  pub stays : Stays begun stopped rest
  pub written : Appends old new added

-- Some of them were, or of the last line a front alone.
pub record ListsSome (view : View) (marking : Marking) (bytes lines : List ℕ) (old new : Option (List ℕ)) : Type 0 where
  pub begun : Bool
  pub rest : List ℕ
  pub talk : Talk
  pub added : List ℕ
  pub each : HasLines view marking bytes begun rest (lines ++ added) talk
  pub written : AppendsFront old new added

-- What came so far was listed, and this is kept of it.
pub record Follows (view : View) (marking : Marking) (before after : Streams) (begun stopped : Bool) (held : HeldTalk) (rest : List ℕ) : Type 0 where
  pub bytes : List ℕ
  pub lines : List ℕ
  pub received : Consumes before.input after.input bytes
  pub tracks : Tracks view marking bytes lines begun held rest
  pub stays : Stays begun stopped rest
  pub written : Appends before.output after.output lines

-- A recording was read to its end, and of its requests what they ran was added to a table.
pub record SumsRecording (view : View) (marking : Marking) (before after : Option (List ℕ)) (end : End) (old new : List Tally) : Type 0 where
  pub bytes : List ℕ
  pub received : Consumes before after bytes
  pub adds : AddsRecording view marking bytes end old new
  pub all : IsReadTo end adds.listing.rest after

-- before the first chunk
abbrev pub held_nothing : HeldHalf
held_nothing = record { bytes = []; place = 0; stopped = false; left = 0 }

abbrev pub held_first : Marking → HeldTalk
held_first marking = record { known = at_first marking; client = held_nothing; server = held_nothing; start = first_start marking.absolute }

-- nothing was listed, and no time is counted
pub record IsFirst (marking : Marking) (begun : Bool) (held : HeldTalk) (rest : List ℕ) : Type 0 where
  pub begins : begun ≡ false
  pub nothing : held ≡ held_first (record marking { absolute = false })
  pub none : rest ≡ []

-- the last lines, by what is kept of both sides
abbrev pub held_last : View → HeldTalk → List ℕ
held_last view held = ending_by view (summary_in held.known.numbers)
    (last_of view held.start (told_by held.known.marked (unnumbered held.known.numbers)) Client held.client.stopped held.client.left ++ last_of view held.start (told_by held.known.marked (unnumbered held.known.numbers)) Server held.server.stopped held.server.left)

-- and what is to be said then
abbrev pub held_said : HeldTalk → End → List ℕ
held_said held end = hint_of true held.known.client held.client.left ++ hint_of true held.known.server held.server.left ++ complaint_of end
