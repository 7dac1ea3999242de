-- Private: a frame and its line, one at a time, and what a piece of a stream adds to its listing.
use Rattle.std.specs.Prelude.{◌≡◌, ◌≤◌, ℕ, ◌+◌, Bool, true, false, List, [], ◌∷◌, ◌++◌, drop, length, map, slice_index, Option, Result}
use Rattle.pgtrace_lines.specs.Common.{Appends, Error, Message, Body, Frame, frame_bytes, IsFrame, Phase, Beginning, Style, Length, Tag, closing, followed, opening, AppendsFront}
use Rattle.pgtrace_lines.specs.declared.frame.Next.{Next}
use Rattle.pgtrace_lines.specs.declared.frame.Next.TheVariants.{Line, Waits, Stops}
use Rattle.pgtrace_lines.specs.declared.side.Side as code
use Rattle.pgtrace_lines.specs.declared.view.View as seen
use Rattle.pgtrace_lines.specs.declared.side.Side.TheVariants as variants
use Rattle.pgtrace_lines.specs.Unread.{ShowsUnread}
use Rattle.pgtrace_lines.specs.Listing.{IsServerLine, LineOf, Lines, name_in, place_behind, server_name}
use Rattle.pgtrace_lines.specs.View.{View}
use Rattle.pgtrace_lines.specs.Sides.{Side, Server, Client, Ends, phase_in}
use Rattle.pgtool_line.specs.Words.{greatest}

-- the code's sides
abbrev pub side_of : code.Side → Side
side_of (variants.Server phase) = Server phase
side_of (variants.Client opened kinds replicating) = Client opened kinds.now replicating

-- the code's views
abbrev pub view_of : seen.View → View
view_of view = record { style = view.style; only = map (λ name. name.now) view.only.now; except = map (λ name. name.now) view.except.now; colored = view.colored; slower = view.slower }

-- how far a server's stream has come after its first message, if it came
abbrev pub phase_of : Next → (replicating : Bool) → Phase
phase_of (Line name) replicating = phase_in replicating
phase_of Waits replicating = Beginning
phase_of Stops replicating = Beginning

-- what stands at the front of bytes that are encrypted
abbrev pub sealed : List ℕ → Next
sealed [] = Waits
sealed (byte ∷ rest) = Stops

-- the bytes are one frame, with this result
pub record IsFrameOf (bytes : List ℕ) (r : Result Message Error) : Type 0 where
  pub first : Frame
  pub whole : bytes ≡ frame_bytes first
  pub fits : IsFrame first
  pub body : Body first.tag first.payload r

-- the line of a frame that isn't read
pub record ReportsFault (style : Style) (place : ℕ) (frame : List ℕ) (e : Error) (line : List ℕ) : Type 0 where
  pub text : List ℕ
  pub shown : ShowsUnread style (slice_index frame 0) (drop 5 frame) e (followed style (opening style place) (Length (length frame) ∷ Tag (slice_index frame 0) ∷ [])) text
  pub ended : line ≡ text ++ closing style ++ 10 ∷ []

-- a server's frame, its line, and the name in it
pub record IsNamedLine (style : Style) (place : ℕ) (replicating : Bool) (frame line name : List ℕ) : Type 0 where
  pub is : IsServerLine style place replicating frame line
  pub named : name ≡ server_name is.first.tag is.reported.result

-- the bytes begin with a frame, which has this line with this name, and then come the new ones
pub record HasLine (style : Style) (place : ℕ) (from : Side) (old new line : List ℕ) (to : Side) (name : List ℕ) : Type 0 where
  pub frame : List ℕ
  pub whole : old ≡ frame ++ new
  pub reported : LineOf style place from frame line to
  pub named : name ≡ name_in style place from frame line to reported

-- nothing was taken, and nothing stands first that could be
pub record IsAtRest (from : Side) (stopped : Bool) (old new : List ℕ) (to : Side) : Type 0 where
  pub same : new ≡ old
  pub ending : Ends from stopped old
  pub side : to ≡ from

-- a frame was passed and has its line; or none is whole, and more is awaited, or the stream ends where nothing reports the next
-- frame
abbrev pub ListsNext : Style → ℕ → Side → List ℕ → List ℕ → List ℕ → Side → Next → Type 0
ListsNext style place from old new line to (Line name) = HasLine style place from old new line to name.now
ListsNext style place from old new line to Waits = IsAtRest from false old new to
ListsNext style place from old new line to Stops = IsAtRest from true old new to

-- The frames of the front have these lines after the old ones, from the place on, and no whole one is left.
pub record ListsAll (view : View) (start : ℕ) (from : Side) (bytes front rest : List ℕ) (stopped : Bool) (to : Side) (old new : List ℕ) : Type 0 where
  pub lines : List ℕ
  pub whole : bytes ≡ front ++ rest
  pub listed : Lines view start from front lines to
  pub ending : Ends to stopped rest
  pub text : new ≡ old ++ lines

-- Some of them were listed, or of the last line a front alone.
pub record ListsSome (view : View) (start : ℕ) (from : Side) (bytes : List ℕ) (old new : Option (List ℕ)) : Type 0 where
  pub to : Side
  pub front : List ℕ
  pub rest : List ℕ
  pub lines : List ℕ
  pub whole : bytes ≡ front ++ rest
  pub listed : Lines view start from front lines to
  pub written : AppendsFront old new lines

-- What is kept of a stream: its side, bytes that aren't listed, the place at which they stand, whether nothing says where a frame begins in them, and
-- how many they are, as far as a number of the machine reports it.
pub record Held : Type 0 where
  pub side : Side
  pub bytes : List ℕ
  pub place : ℕ
  pub stopped : Bool
  pub left : ℕ

-- It is kept of a stream of which this isn't listed. Of one that is stopped the bytes are counted alone.
pub record Holds (held : Held) (rest : List ℕ) : Type 0 where
  pub ending : Ends held.side held.stopped rest
  pub count : held.left ≡ place_behind (length rest)
  pub small : held.place ≤ greatest
  pub bytes : held.stopped ≡ false → held.bytes ≡ rest

-- These bytes stood at the place. All frames at their front were listed, and this is kept of what is left.
pub record ListsPiece (view : View) (start : ℕ) (from : Side) (bytes : List ℕ) (after : Held) (old new : Option (List ℕ)) : Type 0 where
  pub front : List ℕ
  pub rest : List ℕ
  pub lines : List ℕ
  pub whole : bytes ≡ front ++ rest
  pub listed : Lines view start from front lines after.side
  pub holds : Holds after rest
  pub moved : after.place ≡ place_behind (start + length front)
  pub written : Appends old new lines
