-- A client's bytes that come in pieces: what a parser returns of the bytes that it holds and of a piece after them.
use Rattle.std.specs.Prelude.{◌≡◌, ◌≢◌, ◌⊎◌, ℕ, ◌+◌, ◌<◌, ◌^◌, Bool, true, false, List, [], ◌++◌, length, Option, Some, None, Result, Ok, Err}
use Rattle.pgp_frontend.specs.ClientMessage.{ClientMessage, PasswordKind}
use Rattle.pgp_frontend.specs.Payload.{framed}
use Rattle.pgp_frontend_read.specs.Step.{Unread, Stands, Step, BeginsWithLength, IsPartial}
use Rattle.pgp_frontend_read.specs.declared.client_frame.ClientFrame.{ClientFrame}
use Rattle.pgp_frontend_read.specs.declared.error.ClientError.{ClientError}
use Rattle.pgp_frontend_read.specs.declared.limits.Limits.{Limits}
use Rattle.pgp_frontend_read.specs.declared.parser_error.ParserError.{ParserError}
use Rattle.pgp_frontend_read.specs.declared.parser_error.ParserError.TheVariants.{Refused, TooLong, OutOfMemory}

-- What a parser holds: the bytes of a partial message. Whether a startup packet was read, and the limits.
pub record Waiting : Type 0 where
  pub bytes : List ℕ
  pub opened : Bool
  pub limits : Limits

-- what wasn't read yet: the bytes that are held, and a piece after them
abbrev pub unread : Waiting → List ℕ → Unread
unread waiting piece = record { bytes = waiting.bytes ++ piece; opened = waiting.opened }

-- ---- a message's bytes

-- The bytes are a tagged frame, whatever its tag is, or an opening packet that is a message.
abbrev pub IsWhole : Bool → List ℕ → Type 0
IsWhole true bytes = (tag : ℕ) × (payload : List ℕ) × (bytes ≡ framed (Some tag) payload) × (length payload + 4 < 2 ^ 31)
IsWhole false bytes = (x : ClientMessage) × ((kind : PasswordKind) → Stands kind false bytes x [])

-- a message or an error, as the answer of a step
abbrev pub step_of : Result ClientMessage ClientError → Result (Option ClientMessage) ClientError
step_of (Ok x) = Ok (Some x)
step_of (Err e) = Err e

-- Given this kind, a step takes the message's bytes, or passes them with this error.
abbrev pub ReadsFrame : PasswordKind → ClientFrame → Result ClientMessage ClientError → Type 0
ReadsFrame kind frame result = (phase : Bool) × Step kind (record { bytes = frame.bytes.now; opened = frame.opened }) (step_of result) (record { bytes = []; opened = phase })

-- The first bytes are those of one message, and what they are read as is a step of the server.
pub record HandsOut (old : Unread) (frame : ClientFrame) (new : Unread) : Type 0 where
  pub phase : frame.opened ≡ old.opened
  pub whole : IsWhole frame.opened frame.bytes.now
  pub first : old.bytes ≡ frame.bytes.now ++ new.bytes
  pub steps : (kind : PasswordKind) (result : Result ClientMessage ClientError) → ReadsFrame kind frame result → Step kind old (step_of result) new

-- ---- limits

-- the greatest length that a message may announce
abbrev pub limit_of : Limits → Bool → ℕ
limit_of limits false = limits.opening
limit_of limits true = limits.tagged

-- the bytes announce this length, and it passes the limit
pub record IsTooLong (limits : Limits) (here : Unread) (len : ℕ) : Type 0 where
  pub begins : BeginsWithLength here.opened here.bytes len
  pub over : limit_of limits here.opened < len

-- no length past the limit stands there
abbrev pub IsWithin : Limits → Unread → Type 0
IsWithin limits here = (len : ℕ) → IsTooLong limits here len → ⊥

-- ---- a call

-- Bytes came, of a message of which some are held already, or which the piece's end cuts.
abbrev pub IsCut : Waiting → List ℕ → Type 0
IsCut old piece = (piece ≢ []) × ((old.bytes ≢ []) ⊎ IsPartial old.opened piece)

-- Nothing changes: what was held is held, and what was in the piece is in the piece.
pub record Stays (old : Waiting) (piece : List ℕ) (new : Waiting) (left : List ℕ) : Type 0 where
  pub held : new ≡ old
  pub in_piece : left ≡ piece

-- What a call comes to where these bytes are held and this piece comes, and what is held and left of the piece then. `lacks` says
-- that memory was refused. What is refused is so whatever kind is given.
abbrev pub Answer : Type 0 → Waiting → List ℕ → Result (Option ClientFrame) ParserError → Waiting → List ℕ → Type 0
Answer lacks old piece (Ok (Some frame)) new left = IsWithin old.limits (unread old piece) × HandsOut (unread old piece) frame (unread new left) × (new.bytes ≡ [])
Answer lacks old piece (Ok None) new left = IsWithin old.limits (unread old piece) × IsPartial old.opened (old.bytes ++ piece) × (unread new left ≡ unread old piece) × (left ≡ [])
Answer lacks old piece (Err (Refused e)) new left = IsWithin old.limits (unread old piece) × ((kind : PasswordKind) → Step kind (unread old piece) (Err e) (unread old piece)) × Stays old piece new left
Answer lacks old piece (Err (TooLong len)) new left = IsTooLong old.limits (unread old piece) len × Stays old piece new left
Answer lacks old piece (Err OutOfMemory) new left = lacks × IsWithin old.limits (unread old piece) × IsCut old piece × Stays old piece new left

-- The limits stay.
pub record Parses (lacks : Type 0) (old : Waiting) (piece : List ℕ) (result : Result (Option ClientFrame) ParserError) (new : Waiting) (left : List ℕ) : Type 0 where
  pub limits : new.limits ≡ old.limits
  pub answer : Answer lacks old piece result new left
