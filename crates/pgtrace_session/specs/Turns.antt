-- A listing whose requests are numbered, as a client's dialogue: what was asked, what was heard, and what the marks say of it, in turn.
use Rattle.std.specs.Prelude.{◌≡◌, ◌+◌, ℕ, List, [], ◌∷◌, ◌++◌, length, Option, Some, None}
use Rattle.pgp_client.specs.Flow.{Belong}
use Rattle.pgp_client.specs.InTurns.{BelongInTurns}
use Rattle.pgtrace_session.specs.Common.{Turn, Asks, Hears, asked_in, observed_in, reported_in, Event, Kind, place_behind, View, Sender, Role}
use Rattle.pgtrace_session.specs.declared.role.Role.TheVariants as role
use Rattle.pgtrace_session.specs.Conversation.{Known, ListsChunks, ListsFrames, NoChunkListed, NoLines, OneChunkListed, OneLine, Talk, half_in, now_at, side_in}
use Rattle.pgtrace_session.specs.Marks.{mark}
use Rattle.pgtrace_session.specs.Recording.{Chunk}
use Rattle.pgtrace_session.specs.Requests.{Numbers, next_number, place, role_in}

-- a message and where it is said to belong, if it has a place
abbrev pub hears : Kind → Option Event → List Turn
hears kind None = []
hears kind (Some event) = Hears kind event ∷ []

-- the turn that a frame is, where this is known before it: a request is asked under its number, a message is heard
abbrev pub turn_of : Role → Numbers → List Turn
turn_of (role.Request request) n = Asks (record { request = request; name = next_number n }) ∷ []
turn_of (role.Message kind) n = hears kind (place kind n.dialogue).0
turn_of role.Fault n = []
turn_of role.Other n = []

abbrev pub turns_at : Role → Option Numbers → List Turn
turns_at r None = []
turns_at r (Some n) = turn_of r n

-- those of frames, and of chunks, in order

abbrev pub turns_of : (view : View) (m : List ℕ) (who : Sender) (start : ℕ) (from : Known) (bytes lines : List ℕ) (to : Known) → ListsFrames view m who start from bytes lines to → List Turn
turns_of view m who start from [] [] _ NoLines = []
turns_of view m who start from _ _ to (OneLine {bytes = bytes} {lines = lines} {here = here} frame text before one) =
    turns_of view m who start from bytes lines here before ++ turns_at (role_in view.style (place_behind (start + length bytes)) (side_in who here) frame one.line one.after one.reported) here.numbers

abbrev pub turns_in : (view : View) (from : Talk) (chunks : List Chunk) (lines : List ℕ) (to : Talk) → ListsChunks view from chunks lines to → List Turn
turns_in view from [] [] _ NoChunkListed = []
turns_in view from _ _ to (OneChunkListed {chunks = chunks} {lines = lines} {here = here} chunk text before one) =
    turns_in view from chunks lines here before
    ++ turns_of view (mark view.style.form chunk.sender one.time) chunk.sender (half_in chunk.sender here).passed (now_at chunk.micros here.known) one.front text to.known one.each

-- A server may send what was heard to what was asked, in these turns, and each message belongs where it is said to, and nowhere else.
pub record AreTrue (turns : List Turn) : Type 0 where
  pub answers : Belong (asked_in turns) (observed_in turns) (reported_in turns)
  pub belong : BelongInTurns turns (reported_in turns)
  pub alone : (truth : List Event) → BelongInTurns turns truth → truth ≡ reported_in turns
