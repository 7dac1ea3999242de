-- Private: how much of a message a parser holds, as the code counts it. What a call comes to is `Pieces`.
use Rattle.std.specs.Prelude.{◌≡◌, ◌≢◌, ◌⊎◌, ℕ, ◌+◌, ◌-◌, ◌<◌, ◌≤◌, ◌^◌, Bool, true, false, List, [], ◌++◌, length, take, drop, Option, Some, None, Result, Ok, Err, nat_le}
use Rattle.pgp_frontend.specs.ClientMessage.{ClientMessage, PasswordKind}
use Rattle.pgp_frontend_read.specs.Step.{Step, BeginsWithLength, IsLengthFault, IsPartial, place, least}
use Rattle.pgp_frontend_read.specs.Pieces.{IsTooLong, IsWithin, IsWhole, step_of}
use Rattle.pgp_frontend_read.specs.declared.client_frame.ClientFrame.{ClientFrame}
use Rattle.pgp_frontend_read.specs.declared.error.ClientError.{ClientError}
use Rattle.pgp_frontend_read.specs.declared.error.ClientError.TheVariants.{Reading}
use Rattle.pgp_frontend_read.specs.declared.limits.Limits.{Limits}
use Rattle.pgp_frontend_read.specs.declared.parser_error.ParserError.{ParserError}
use Rattle.pgp_frontend_read.specs.declared.parser_error.ParserError.TheVariants.{Refused, TooLong, OutOfMemory}
use Rattle.pgp_base.specs.declared.error.Error.TheVariants.{InvalidLength}

-- the bytes up to the length's end
abbrev pub header : Bool → ℕ
header opened = place opened + 4

-- The bytes begin with a length that a message may have, and then it has so many bytes.
pub record HasSize (opened : Bool) (bytes : List ℕ) (size : ℕ) : Type 0 where
  pub len : ℕ
  pub begins : BeginsWithLength opened bytes len
  pub enough : least opened ≤ len
  pub fits : len < 2 ^ 31
  pub all : size ≡ len + place opened

-- How many bytes are held of the message at the front: its header's until that is whole, and then all.
abbrev pub IsWanted : Bool → List ℕ → Option ℕ → Type 0
IsWanted opened bytes None = length bytes < header opened
IsWanted opened bytes (Some size) = HasSize opened bytes size

abbrev pub wanted : Bool → Option ℕ → ℕ
wanted opened None = header opened
wanted opened (Some size) = size

-- whether so many bytes are all of the message
abbrev pub is_whole : ℕ → Option ℕ → Bool
is_whole len None = false
is_whole len (Some size) = nat_le size len

-- No more is held than the message's header, or all of it.
abbrev pub Fits : Bool → List ℕ → Type 0
Fits opened held = (length held ≤ header opened) ⊎ ((size : ℕ) × HasSize opened held size × (length held ≤ size))

-- what a parser remembers: where what it holds was handed out, that is dropped by the next call
abbrev pub IsSound : Bool → Bool → List ℕ → Type 0
IsSound read opened held = (read ≡ true) ⊎ Fits opened held

-- how many bytes the message at the front has, unless no message has its length, or that passes the limit
abbrev pub Sizes : Limits → Bool → List ℕ → Result (Option ℕ) ParserError → Type 0
Sizes limits opened bytes (Ok size) = IsWithin limits (record { bytes = bytes; opened = opened }) × IsWanted opened bytes size
Sizes limits opened bytes (Err e) =
    ((len : ℕ) × (e ≡ TooLong len) × IsTooLong limits (record { bytes = bytes; opened = opened }) len)
    ⊎ ((e ≡ Refused (Reading InvalidLength)) × IsWithin limits (record { bytes = bytes; opened = opened }) × IsLengthFault opened bytes)

-- bytes of a piece moved after those that are held, up to so many
pub record Fills (size : ℕ) (old piece new left : List ℕ) : Type 0 where
  pub moved : ℕ
  pub most : moved ≤ size - length old
  pub there : moved ≤ length piece
  pub grown : new ≡ old ++ take moved piece
  pub rest : left ≡ drop moved piece
  pub done : (moved ≡ size - length old) ⊎ (moved ≡ length piece)

-- The bytes are those of one message, and after it the connection is in this phase, whatever the message is read as.
pub record IsReadAs (opened : Bool) (bytes : List ℕ) (now : Bool) : Type 0 where
  pub whole : IsWhole opened bytes
  pub steps : (kind : PasswordKind) (result : Result ClientMessage ClientError) (phase : Bool) → Step kind (record { bytes = bytes; opened = opened }) (step_of result) (record { bytes = []; opened = phase }) → phase ≡ now

-- whatever kind is given, a step rejects what stands there, and passes nothing
pub record IsLeft (opened : Bool) (bytes : List ℕ) (e : ParserError) : Type 0 where
  pub cause : ClientError
  pub name : e ≡ Refused cause
  pub steps : (kind : PasswordKind) → Step kind (record { bytes = bytes; opened = opened }) (Err cause) (record { bytes = bytes; opened = opened })

-- the phase after the message; an opening packet that is no message is left
abbrev pub Opens : Bool → List ℕ → Result Bool ParserError → Type 0
Opens opened bytes (Ok now) = IsReadAs opened bytes now
Opens opened bytes (Err e) = IsLeft opened bytes e

-- The message is whole in the piece, and nothing is held; or it is cut.
abbrev pub StandsInPiece : Bool → List ℕ → List ℕ → Option ℕ → Bool → Type 0
StandsInPiece opened held piece size true = (held ≡ []) × ((n : ℕ) × (size ≡ Some n) × HasSize opened piece n × (n ≤ length piece))
StandsInPiece opened held piece size false = (held ≢ []) ⊎ IsPartial opened piece

-- the frame is these bytes in this phase
pub record IsFrameOf (opened : Bool) (bytes : List ℕ) (frame : ClientFrame) : Type 0 where
  pub phase : frame.opened ≡ opened
  pub same : frame.bytes.now ≡ bytes

-- The message is taken off the piece; an opening packet that is no message is left.
abbrev pub TakesOff : Bool → List ℕ → Result ClientFrame ParserError → Bool → List ℕ → Type 0
TakesOff opened piece (Ok frame) now left = (bytes : List ℕ) × IsReadAs opened bytes now × IsFrameOf opened bytes frame × (piece ≡ bytes ++ left)
TakesOff opened piece (Err e) now left = (now ≡ opened) × (left ≡ piece) × IsLeft opened piece e

-- What the piece has of the message is held; and whether all of it is.
abbrev pub Holds : Type 0 → Option ℕ → List ℕ → List ℕ → Result Bool ParserError → List ℕ → List ℕ → Type 0
Holds lacks size held piece (Ok true) new left = (new ++ left ≡ held ++ piece) × ((n : ℕ) × (size ≡ Some n) × (length new ≡ n))
Holds lacks size held piece (Ok false) new left = (new ≡ held ++ piece) × (left ≡ []) × ((n : ℕ) → size ≡ Some n → length new < n)
Holds lacks size held piece (Err e) new left = (e ≡ OutOfMemory) × lacks × (new ≡ held) × (left ≡ piece) × (piece ≢ [])

-- What is held is all of the message, and after it the connection is in this phase; or all of the piece is held; or nothing changes,
-- since memory is refused or an opening packet that is no message stands there.
abbrev pub Completes : Type 0 → Bool → List ℕ → List ℕ → Result (Option Bool) ParserError → List ℕ → List ℕ → Type 0
Completes lacks opened held piece (Ok (Some now)) new left = (new ++ left ≡ held ++ piece) × HasSize opened new (length new) × IsReadAs opened new now
Completes lacks opened held piece (Ok None) new left = (new ≡ held ++ piece) × (left ≡ []) × IsPartial opened (held ++ piece)
Completes lacks opened held piece (Err e) new left = (new ≡ held) × (left ≡ piece) × (((e ≡ OutOfMemory) × lacks × (piece ≢ [])) ⊎ IsLeft opened (held ++ piece) e)
