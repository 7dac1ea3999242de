-- Private: lines of values, a part at a time, and what a frame is read as.
use Rattle.std.specs.Prelude.{◌≡◌, ℕ, Bool, List, [], ◌∷◌, length, Option, None, Ok, Err}
use Rattle.pgtrace_session.specs.Common.{Error, Part, ListEnds, followed, Style, ending, Sender, Client, Server, Column, Told, Noted, Role}
use Rattle.pgp_frontend.specs.ClientMessage.{PasswordKind}
use Rattle.pgp_frontend_read.specs.Pieces.{step_of}
use Rattle.pgp_frontend_read.specs.Step as client
use Rattle.pgtrace_lines.specs.Steps.{IsFrameOf}
use Rattle.pgtrace_session.specs.declared.placement.Told.TheVariants as told
use Rattle.pgtrace_session.specs.Conversation.{noted_by}
use Rattle.pgtrace_session.specs.Requests.{Numbers}
use Rattle.pgtrace_session.specs.Summing.{placed_by, places}
use Rattle.pgtrace_session.specs.Typed.{Heard, Learns, Said, Sent, ShowsBytes, ShowsSent, ShowsTyped, ShowsValue, ShowsValues, Unsaid}
use Rattle.pgtrace_session.specs.Types.{Types}

-- one value
pub record AddsBytes (style : Style) (binary : Bool) (oid : ℕ) (bytes old new : List ℕ) : Type 0 where
  pub shown : Part
  pub under : ShowsBytes binary oid bytes shown
  pub text : new ≡ followed style old (shown ∷ [])

pub record AddsValue (style : Style) (column : Column) (value : Option (List ℕ)) (old new : List ℕ) : Type 0 where
  pub shown : Part
  pub under : ShowsValue column value shown
  pub text : new ≡ followed style old (shown ∷ [])

-- all of a row, and the end of their list
pub record AddsValues (style : Style) (columns : List Column) (values : List (Option (List ℕ))) (end : Option Error) (old new : List ℕ) : Type 0 where
  pub last : List ℕ
  pub each : ShowsValues style columns values old last
  pub text : new ≡ followed style last (ending ListEnds end)

-- what a frame of this side is read as; an answer of one byte is none
abbrev pub ReadsSo : Sender → (opened : Bool) → PasswordKind → (frame : List ℕ) → Said → Type 0
ReadsSo Server opened kind frame (Heard r) = IsFrameOf frame r
ReadsSo Server opened kind frame Unsaid = length frame ≡ 1
ReadsSo Server opened kind frame (Sent r) = ⊥
ReadsSo Client opened kind frame (Sent r) = (now : Bool) × client.Step kind (record { bytes = frame; opened = opened }) (step_of r) (record { bytes = []; opened = now })
ReadsSo Client opened kind frame (Heard r) = ⊥
ReadsSo Client opened kind frame Unsaid = ⊥

-- what is taken note of a frame that is read so: what its mark says of requests, what is then known of them and of types, and what the frame
-- says of messages to come
pub record Tells (frame : List ℕ) (said : Said) (from to : Option Numbers) (old new : Option Types) (told : Told) (noted : Noted) : Type 0 where
  pub placed : placed_by frame said from ≡ (told, to)
  pub learns : Learns told said old new
  pub expects : noted ≡ noted_by said

-- and its line with that
pub record Reads (style : Style) (place : ℕ) (frame : List ℕ) (said : Said) (from to : Option Numbers) (old new : Option Types) (line typed : List ℕ) (told : Told) (noted : Noted) : Type 0 where
  pub tells : Tells frame said from to old new told noted
  pub shows : ShowsTyped style place (length frame) told said new line typed

-- what is known of types where this is told of what isn't read
abbrev pub lost : Told → Option Types → Option Types
lost told.Lost old = None
lost told old = old

-- of what isn't read nothing is known but what it is to the requests
pub record Passes (role : Role) (from to : Option Numbers) (old new : Option Types) (told : Told) : Type 0 where
  pub placed : places role None from ≡ (told, to)
  pub learns : new ≡ lost told old

-- the line of a request that is read so
abbrev pub ShowsRequest : Style → (place len : ℕ) → Said → Types → (old new : List ℕ) → Type 0
ShowsRequest style place len (Sent (Ok m)) types old new = ShowsSent style place len m types old new
ShowsRequest style place len (Sent (Err e)) types old new = new ≡ old
ShowsRequest style place len (Heard r) types old new = new ≡ old
ShowsRequest style place len Unsaid types old new = new ≡ old
