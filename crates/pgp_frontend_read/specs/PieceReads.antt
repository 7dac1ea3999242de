-- A server that reads a connection's pieces on and on.
use Rattle.std.specs.Prelude.{◌≡◌, ◌⊎◌, ℕ, List, [], ◌∷◌, Option, Some, None, Result, Ok, Err}
use Rattle.pgp_frontend.specs.ClientMessage.{ClientMessage, PasswordKind}
use Rattle.pgp_frontend_read.specs.Reads.{next_kind, kinds_behind, IsEnd}
use Rattle.pgp_frontend_read.specs.Pieces.{Waiting, ReadsFrame, Answer}
use Rattle.pgp_frontend_read.specs.declared.client_frame.ClientFrame.{ClientFrame}
use Rattle.pgp_frontend_read.specs.declared.error.ClientError.{ClientError}
use Rattle.pgp_frontend_read.specs.declared.parser_error.ParserError.TheVariants.{Refused}

-- a call handed out a message's bytes, which were read so
pub record ReadsNext (lacks : Type 0) (kind : PasswordKind) (old : Waiting) (piece : List ℕ) (read : Result ClientMessage ClientError) (new : Waiting) (left : List ℕ) : Type 0 where
  pub frame : ClientFrame
  pub found : Answer lacks old piece (Ok (Some frame)) new left
  pub reported : ReadsFrame kind frame read

-- What a call gave, with the message of what it handed out.
abbrev pub Gives : Type 0 → PasswordKind → Waiting → List ℕ → Result (Option ClientMessage) ClientError → Waiting → List ℕ → Type 0
Gives lacks kind old piece (Ok (Some x)) new left = ReadsNext lacks kind old piece (Ok x) new left
Gives lacks kind old piece (Ok None) new left = Answer lacks old piece (Ok None) new left
Gives lacks kind old piece (Err e) new left = ReadsNext lacks kind old piece (Err e) new left ⊎ Answer lacks old piece (Err (Refused e)) new left

-- Calls over one piece gave these messages, and then this end.
abbrev pub ReadsPiece : Type 0 → List PasswordKind → Waiting → List ℕ → List ClientMessage → Result (Option ClientMessage) ClientError → List PasswordKind → Waiting → List ℕ → Type 0
ReadsPiece lacks kinds old piece [] end rest new left = Gives lacks (next_kind kinds) old piece end new left × IsEnd end × (rest ≡ kinds)
ReadsPiece lacks kinds old piece (x ∷ messages) end rest new left =
    (here : Waiting) × (behind : List ℕ) × Gives lacks (next_kind kinds) old piece (Ok (Some x)) here behind × ReadsPiece lacks (kinds_behind x kinds) here behind messages end rest new left

-- a piece, and the messages that were read while it came
pub record Received : Type 0 where
  pub piece : List ℕ
  pub messages : List ClientMessage

-- Pieces came one after the other, and each was used up.
abbrev pub ReadsPieces : Type 0 → List PasswordKind → Waiting → List Received → List PasswordKind → Waiting → Type 0
ReadsPieces lacks kinds old [] rest new = (rest ≡ kinds) × (new ≡ old)
ReadsPieces lacks kinds old (x ∷ received) rest new =
    (others : List PasswordKind) × (here : Waiting) × (left : List ℕ) × ReadsPiece lacks kinds old x.piece x.messages (Ok None) others here left × ReadsPieces lacks others here received rest new

abbrev pub piece_of : Received → List ℕ
piece_of x = x.piece

abbrev pub messages_of : Received → List ClientMessage
messages_of x = x.messages
