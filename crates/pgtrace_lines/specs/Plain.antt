-- The listing of a server's stream in which no replication begins.
use Rattle.std.specs.Prelude.{◌≡◌, ◌≢◌, ℕ, false, List, [], ◌++◌}
use Rattle.pgp_message.specs.Stream.{Frame, frame_bytes, IsFrame}
use Rattle.pgtrace_lines.specs.Listing.{IsServerLine, server_name}
use Rattle.pgtrace_lines.specs.Rows.{Rows}
use Rattle.pgtrace_lines.specs.View.{View, shown}

-- bytes that are frames, of which none has tag `W`
pub data HasNoCopyBoth : List ℕ → Type 0 where
  NoFrame : HasNoCopyBoth []
  OneFrame : {bytes : List ℕ} (f : Frame) → HasNoCopyBoth bytes → IsFrame f → f.tag ≢ 87 → HasNoCopyBoth (bytes ++ frame_bytes f)

-- a frame has the line of its message by itself, in which no other is looked for
pub record PlainLine (view : View) (place : ℕ) (here : Unit {0}) (frame text : List ℕ) (to : Unit {0}) : Type 0 where
  pub line : List ℕ
  pub is : IsServerLine view.style place false frame line
  pub shows : text ≡ shown view (server_name is.first.tag is.reported.result) line

abbrev pub PlainLines : View → (start : ℕ) → (bytes lines : List ℕ) → Type 0
PlainLines view start bytes lines = Rows (PlainLine view) start tt bytes lines tt
