-- The listing of a server's or a client's stream.
use Rattle.std.specs.Prelude.{◌≡◌, ◌⊎◌, ℕ, Bool, true, false, List, [], ◌∷◌, ◌++◌, length, get_or, Result, Ok, Err, Option, None, Some, ◌==◌, if◌then◌else◌, codes, decimal}
use mathlib.Core.Logic.{inl, inr}
use Rattle.pgtrace_lines.specs.Common.{Appends, Consumes, IsAtEnd, Keeps, Error, Message, Body, BackendRun, Frame, frame_bytes, IsFrame, ClientMessage, step_of, Step, ClientError, Phase, Beginning, Messages, Replicating, Encrypted, Form, Columns, Json, Style, Length, Name, Tag, closing, followed, opening, Streams, AppendsFront}
use Rattle.pgp_frontend_read.specs.declared.message.PasswordKind.{PasswordKind}
use Rattle.pgtrace_lines.specs.Client.{ClientSays, client_data, client_name}
use Rattle.pgtrace_lines.specs.Sides.{Side, Server, Client, AreAnswers, Ends, answered, expected, is_reported, kinds_behind, phase_behind, replicates_behind, server_at}
use Rattle.pgtrace_lines.specs.Names.{name_of}
use Rattle.pgtrace_lines.specs.Shown.{Says, called, inner_data}
use Rattle.pgtrace_lines.specs.Unread.{ShowsUnread}
use Rattle.pgtrace_lines.specs.Hints.{hint_of}
use Rattle.pgtrace_lines.specs.View.{View, shown}
pub use Rattle.pgtrace_lines.specs.Rows.{Rows, NoLines, OneLine, place_behind}

-- what each line begins with: the place of the frame, how long it is, and its tag
abbrev pub front : Style → ℕ → Frame → List ℕ
front style place f = followed style (opening style place) (Length (length (frame_bytes f)) ∷ Tag f.tag ∷ [])

-- and how it goes on: with the name of the message and what it says, or with what a frame says that isn't read
abbrev pub GoesOn : Style → (replicating : Bool) (tag : ℕ) (body : List ℕ) → Result Message Error → List ℕ → List ℕ → Type 0
GoesOn style replicating tag body (Ok m) old new = Says (inner_data replicating m) style m (followed style old (called m ∷ [])) new
GoesOn style replicating tag body (Err e) old new = ShowsUnread style tag body e old new

-- the line of a frame that stands at the place, in a replication stream or not
pub record IsLineOf (style : Style) (place : ℕ) (replicating : Bool) (f : Frame) (line : List ℕ) : Type 0 where
  pub result : Result Message Error
  pub body : Body f.tag f.payload result
  pub text : List ℕ
  pub reported : GoesOn style replicating f.tag f.payload result (front style place f) text
  pub ended : line ≡ text ++ closing style ++ 10 ∷ []

-- the frame of a server, and its line
pub record IsServerLine (style : Style) (place : ℕ) (replicating : Bool) (frame line : List ℕ) : Type 0 where
  pub first : Frame
  pub whole : frame ≡ frame_bytes first
  pub fits : IsFrame first
  pub reported : IsLineOf style place replicating first line

-- which request a server answers, as far as its byte says
abbrev pub answer_name : ℕ → List ℕ
answer_name byte =
    if byte == 83 then codes "SSLResponse"  -- S
    else if byte == 71 then codes "GSSENCResponse"  -- G
    else codes "SSLResponse or GSSENCResponse"

abbrev pub answer_line : Style → ℕ → ℕ → List ℕ
answer_line style place byte = followed style (opening style place) (Length 1 ∷ Tag byte ∷ Name true (answer_name byte) ∷ []) ++ closing style ++ 10 ∷ []

-- an answer of one byte, and its line
pub record IsAnswerLine (style : Style) (place : ℕ) (frame line : List ℕ) (phase : Phase) : Type 0 where
  pub byte : ℕ
  pub whole : frame ≡ byte ∷ []
  pub answers : phase_behind byte ≡ Some phase
  pub reported : line ≡ answer_line style place byte

-- Before the first message: an answer; or that message, as no answer stands there.
pub record IsAnswer (style : Style) (place : ℕ) (frame line : List ℕ) (to : Side) : Type 0 where
  pub phase : Phase
  pub reported : IsAnswerLine style place frame line phase
  pub behind : to ≡ Server phase

pub record IsFirst (style : Style) (place : ℕ) (frame line : List ℕ) (to : Side) : Type 0 where
  pub reported : IsServerLine style place false frame line
  pub none : answered frame ≡ None
  pub behind : to ≡ server_at (replicates_behind false frame)

-- an opening packet has no tag
abbrev pub client_tag : Bool → List ℕ → ℕ
client_tag true frame = get_or frame 0 0
client_tag false frame = 45

abbrev pub client_front : Style → ℕ → Bool → List ℕ → List ℕ
client_front style place opened frame = followed style (opening style place) (Length (length frame) ∷ Tag (client_tag opened frame) ∷ [])

-- a line that goes on so, and ends
pub record EndsSo (style : Style) (reported replicating : Bool) (result : Result ClientMessage ClientError) (front line : List ℕ) : Type 0 where
  pub text : List ℕ
  pub says : ClientSays (client_data replicating result) style reported result front text
  pub ended : line ≡ text ++ closing style ++ 10 ∷ []

-- The bytes are what a step of a server takes or passes that reads a client, and their line.
pub record IsClientLine (style : Style) (place : ℕ) (opened : Bool) (kinds : List PasswordKind) (replicating : Bool) (frame line : List ℕ) (now : Bool) : Type 0 where
  pub result : Result ClientMessage ClientError
  pub step : Step (expected kinds) (record { bytes = frame; opened = opened }) (step_of result) (record { bytes = []; opened = now })
  pub reported : EndsSo style (is_reported kinds) replicating result (client_front style place opened frame) line

pub record IsNextLine (style : Style) (place : ℕ) (opened : Bool) (kinds : List PasswordKind) (replicating : Bool) (frame line : List ℕ) (to : Side) : Type 0 where
  pub now : Bool
  pub reported : IsClientLine style place opened kinds replicating frame line now
  pub behind : to ≡ Client now (kinds_behind opened frame kinds) replicating

-- a frame that stands at the place, and its line; and what is known of the side after it
abbrev pub LineOf : Style → ℕ → Side → List ℕ → List ℕ → Side → Type 0
LineOf style place (Server Beginning) frame line to = IsAnswer style place frame line to ⊎ IsFirst style place frame line to
LineOf style place (Server Messages) frame line to = IsServerLine style place false frame line × (to ≡ server_at (replicates_behind false frame))
LineOf style place (Server Replicating) frame line to = IsServerLine style place true frame line × (to ≡ server_at (replicates_behind true frame))
LineOf style place (Server Encrypted) frame line to = ⊥
LineOf style place (Client opened kinds replicating) frame line to = IsNextLine style place opened kinds replicating frame line to

-- The name of a frame that isn't read: of the two that have their parts all the same, or that it is rejected.
abbrev pub unread_name : (tag : ℕ) → List ℕ
unread_name tag =
    if tag == 86 then codes "FunctionCallResponse"  -- V
    else if tag == 87 then codes "CopyBothResponse"  -- W
    else codes "fault"

-- the name of a frame, by what it is read as
abbrev pub server_name : (tag : ℕ) → Result Message Error → List ℕ
server_name tag (Ok m) = name_of m
server_name tag (Err e) = unread_name tag

abbrev pub client_frame_name : Bool → Result ClientMessage ClientError → List ℕ
client_frame_name reported (Ok x) = client_name reported x
client_frame_name reported (Err e) = codes "fault"

-- the name that stands in a line
abbrev pub name_in : (style : Style) (place : ℕ) (from : Side) (frame line : List ℕ) (to : Side) → LineOf style place from frame line to → List ℕ
name_in style place (Server Beginning) frame line to (inl answer) = answer_name answer.reported.byte
name_in style place (Server Beginning) frame line to (inr first) = server_name first.reported.first.tag first.reported.reported.result
name_in style place (Server Messages) frame line to is = server_name is.0.first.tag is.0.reported.result
name_in style place (Server Replicating) frame line to is = server_name is.0.first.tag is.0.reported.result
name_in style place (Server Encrypted) frame line to is = []
name_in style place (Client opened kinds replicating) frame line to is = client_frame_name (is_reported kinds) is.reported.result

-- What stands in the listing of a frame: its line, where its name is asked for.
pub record Listed (view : View) (place : ℕ) (from : Side) (frame text : List ℕ) (to : Side) : Type 0 where
  pub line : List ℕ
  pub reported : LineOf view.style place from frame line to
  pub is : text ≡ shown view (name_in view.style place from frame line to reported) line

-- These bytes, after so many others, are complete frames, each of which has its line; of the lines those stand in the listing that are asked for.
abbrev pub Lines : View → (start : ℕ) → Side → (bytes lines : List ℕ) → Side → Type 0
Lines view start from = Rows (Listed view) start from

-- the last line, where so many bytes are left, as far as a number of the machine reports it
abbrev pub last_by : Form → Bool → ℕ → List ℕ
last_by Columns false n = codes "rest " ++ decimal n
last_by Columns true n = codes "stopped rest " ++ decimal n
last_by Json false n = codes "{\"rest\":" ++ decimal n ++ codes ",\"stopped\":false}"
last_by Json true n = codes "{\"rest\":" ++ decimal n ++ codes ",\"stopped\":true}"

abbrev pub last_line : View → Bool → ℕ → List ℕ
last_line view stopped n = last_by view.style.form stopped n ++ 10 ∷ []

-- what is left of an input, and what was written
abbrev pub streams : (input output : Option (List ℕ)) → Streams
streams input output = record { input = input; output = output }

-- All lines of what came so far were written: the bytes are frames, each of which has its line, and then a rest in which none is whole.
pub record IsListed (view : View) (from : Side) (stopped : Bool) (rest : List ℕ) (before after : Streams) : Type 0 where
  pub to : Side
  pub front : List ℕ
  pub lines : List ℕ
  pub received : Consumes before.input after.input (front ++ rest)
  pub listed : Lines view 0 from front lines to
  pub ending : Ends to stopped rest
  pub written : Appends before.output after.output lines

-- whatever stands after the frames
pub record WasListed (view : View) (from : Side) (before after : Streams) : Type 0 where
  pub stopped : Bool
  pub rest : List ℕ
  pub all : IsListed view from stopped rest before after

-- All lines of what came from such a reader stand in the writer, and are passed on, so that it may be read again.
pub record IsReady {R W : Type 0} (remaining : R → Option (List ℕ)) (contents : W → Option (List ℕ)) (Passed : W → Type 0) (view : View) (from : Side) (reader : R) (writer : W) (now : R) : Type 0 where
  pub out : W
  pub listed : WasListed view from (record { input = remaining reader; output = contents writer }) (record { input = remaining now; output = contents out })
  pub passed : Keeps (contents writer) (contents out) ⊎ Passed out

-- where they do, the reader may be read
abbrev pub ReadsWhenReady : {R W : Type 0} → (R → Option (List ℕ)) → (W → Option (List ℕ)) → (W → Type 0) → (R → Type 0) → View → Side → R → W → Type 0
ReadsWhenReady {R} remaining contents Passed MayRead view from reader writer = (now : R) → IsReady remaining contents Passed view from reader writer now → MayRead now

-- The same of a stream whose end has come, and a last line that says how many bytes are left.
pub record IsListing (view : View) (from : Side) (bytes output : List ℕ) : Type 0 where
  pub to : Side
  pub front : List ℕ
  pub rest : List ℕ
  pub lines : List ℕ
  pub stopped : Bool
  pub whole : bytes ≡ front ++ rest
  pub listed : Lines view 0 from front lines to
  pub ending : Ends to stopped rest
  pub text : output ≡ lines ++ last_line view stopped (place_behind (length rest))

-- The bytes are answers of one byte, and then the stream as it is read elsewhere, with this end and this rest.
pub record IsRunBehindAnswers (bytes : List ℕ) (stopped : Bool) (rest : List ℕ) : Type 0 where
  pub answers : List ℕ
  pub more : List ℕ
  pub results : List (Result Message Error)
  pub whole : bytes ≡ answers ++ more
  pub plain : AreAnswers answers
  pub none : answered more ≡ None
  pub run : BackendRun more results stopped rest

-- that listing was written, and nothing else; and this is to be said of the bytes that are left
pub record WritesListing (view : View) (from : Side) (bytes : List ℕ) (old new : Option (List ℕ)) (said : List ℕ) : Type 0 where
  pub output : List ℕ
  pub is : IsListing view from bytes output
  pub written : Appends old new output
  pub why : said ≡ hint_of false is.to (place_behind (length is.rest))

-- the end of the input has come, and the last line is due
pub record EndsWith (view : View) (to : Side) (input : Option (List ℕ)) (rest lines text : List ℕ) : Type 0 where
  pub stopped : Bool
  pub end : IsAtEnd input
  pub ending : Ends to stopped rest
  pub all : text ≡ lines ++ last_line view stopped (place_behind (length rest))

-- A front of the lines of what came was written, and of the last one where it is due.
pub record IsCutShort (view : View) (from : Side) (before after : Streams) : Type 0 where
  pub to : Side
  pub front : List ℕ
  pub rest : List ℕ
  pub lines : List ℕ
  pub text : List ℕ
  pub received : Consumes before.input after.input (front ++ rest)
  pub listed : Lines view 0 from front lines to
  pub due : (text ≡ lines) ⊎ EndsWith view to after.input rest lines text
  pub written : AppendsFront before.output after.output text
