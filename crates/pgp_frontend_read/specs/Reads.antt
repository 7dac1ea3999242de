-- A server that reads on and on, given the kinds of the messages of tag `p` in order.
use Rattle.std.specs.Prelude.{◌≡◌, ℕ, false, List, [], ◌∷◌, length, drop, Option, Some, None, Result, Ok, Err}
use Rattle.pgp_frontend.specs.ClientMessage.{ClientMessage, PasswordKind, Password}
use Rattle.pgp_frontend.specs.ClientRun.{kinds_of}
use Rattle.pgp_frontend_read.specs.declared.error.ClientError.{ClientError}
use Rattle.pgp_frontend_read.specs.Step.{Unread, Step}

-- the kind that is expected next; where none is, any may be reported
abbrev pub next_kind : List PasswordKind → PasswordKind
next_kind [] = Password
next_kind (kind ∷ kinds) = kind

-- the kinds that are expected after the message
abbrev pub kinds_behind : ClientMessage → List PasswordKind → List PasswordKind
kinds_behind m kinds = drop (length (kinds_of m)) kinds

-- it is no message
abbrev pub IsEnd : Result (Option ClientMessage) ClientError → Type 0
IsEnd (Ok (Some m)) = ⊥
IsEnd _ = Unit {0}

-- Steps gave these messages, and the next gave this end.
abbrev pub Reads : List PasswordKind → Unread → List ClientMessage → Result (Option ClientMessage) ClientError → Unread → Type 0
Reads kinds old [] end new = Step (next_kind kinds) old end new × IsEnd end
Reads kinds old (m ∷ messages) end new = (here : Unread) × Step (next_kind kinds) old (Ok (Some m)) here × Reads (kinds_behind m kinds) here messages end new

-- all was read, and the server waits for more
pub record IsAllRead (messages others : List ClientMessage) (end : Result (Option ClientMessage) ClientError) (new : Unread) : Type 0 where
  pub same : others ≡ messages
  pub waits : end ≡ Ok None
  pub none : new.bytes ≡ []

-- what ended the reading: nothing is rejected, or the first error
abbrev pub end_of : Option ClientError → Result (Option ClientMessage) ClientError
end_of None = Ok None
end_of (Some e) = Err e

-- Given these kinds, a server reads these messages from the front of the bytes, and then this end.
abbrev pub ReadsSession : List PasswordKind → List ℕ → List ClientMessage → Option ClientError → Type 0
ReadsSession kinds bytes messages end = (new : Unread) × Reads kinds (record { bytes = bytes; opened = false }) messages (end_of end) new

-- Steps gave these messages, and these kinds and this are left.
abbrev pub HasRead : List PasswordKind → Unread → List ClientMessage → List PasswordKind → Unread → Type 0
HasRead kinds old [] rest here = (rest ≡ kinds) × (here ≡ old)
HasRead kinds old (m ∷ messages) rest here = (next : Unread) × Step (next_kind kinds) old (Ok (Some m)) next × HasRead (kinds_behind m kinds) next messages rest here

abbrev pub ReadsOn : List PasswordKind → Unread → List ClientMessage → Option ClientError → Unread → Type 0
ReadsOn kinds old messages end new = Reads kinds old messages (end_of end) new
