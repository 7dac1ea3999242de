-- Whose stream is listed, and where it is no longer cut into frames. PostgreSQL manual, "Message Formats".
use Rattle.std.specs.Prelude.{◌≡◌, ◌⊎◌, ◌+◌, ◌<◌, ◌^◌, ℕ, Bool, true, false, List, [], ◌∷◌, ◌++◌, length, drop, Option, None, Some, ◌==◌, if◌then◌else◌}
use Rattle.pgtrace_lines.specs.Common.{AllByRecursion, PasswordKind, IsEnding, kind_view, ClientError, Phase, Beginning, Messages, Replicating, Encrypted}
use Rattle.pgp_frontend.specs.ClientMessage as grammar
use Rattle.pgp_frontend.specs.Payload.{framed}
use Rattle.pgp_frontend_read.specs.Step as client
use Rattle.pgp_frontend_read.specs.declared.message.PasswordKind as code

-- A server's, which has come so far; or a client's, of which a startup packet was read or not, whose next messages of tag `p` are of these kinds, and whose
-- CopyData hold a standby's messages or not.
pub data Side : Type 0 where
  Server : (phase : Phase) → Side
  Client : (opened : Bool) (kinds : List code.PasswordKind) (replicating : Bool) → Side

-- A server answers a request for encryption by one byte: `N` where the connection goes on in the clear, so that a client may ask again; `S` where TLS
-- follows, and `G` where GSSAPI encryption does. Such answers come before any message, as many as the client asked for. No message of these tags begins a
-- connection: the first is `R`, `E` or `v`, and a server sends no NoticeResponse before the log-in is complete.
abbrev pub phase_behind : ℕ → Option Phase
phase_behind byte =
    if byte == 78 then Some Beginning  -- N
    else if byte == 83 then Some Encrypted  -- S
    else if byte == 71 then Some Encrypted  -- G
    else None

-- answers, after each of which the stream goes on in the clear
abbrev pub AreAnswers : List ℕ → Type 0
AreAnswers bytes = AllByRecursion (λ byte. phase_behind byte ≡ Some Beginning) bytes

-- how far a stream has come that is taken in mid-session, or from its first byte on
abbrev pub first_phase : (resume : Bool) → Phase
first_phase true = Messages
first_phase false = Beginning

-- how far it has come where its CopyData hold messages of replication or not
abbrev pub phase_in : (replicating : Bool) → Phase
phase_in true = Replicating
phase_in false = Messages

abbrev pub server_at : (replicating : Bool) → Side
server_at replicating = Server (phase_in replicating)

-- whether they do after a message of this tag: from a CopyBothResponse on, up to a CopyDone, an ErrorResponse or a CommandComplete
abbrev pub replicates : (now : Bool) (tag : ℕ) → Bool
replicates now tag =
    if tag == 87 then true  -- W
    else if tag == 99 then false  -- c
    else if tag == 69 then false  -- E
    else if tag == 67 then false  -- C
    else now

-- and after a frame
abbrev pub replicates_behind : (now : Bool) → List ℕ → Bool
replicates_behind now [] = now
replicates_behind now (tag ∷ rest) = replicates now tag

-- how far the stream has come after the answer that stands first, if one does
abbrev pub answered : List ℕ → Option Phase
answered [] = None
answered (byte ∷ rest) = phase_behind byte

-- the kind that the next message of tag `p` is read as; where none is known, as the one that all bytes are
abbrev pub expected : List code.PasswordKind → PasswordKind
expected [] = grammar.Response
expected (kind ∷ kinds) = kind_view kind

-- whether a kind is known
abbrev pub is_reported : List code.PasswordKind → Bool
is_reported [] = false
is_reported (kind ∷ kinds) = true

-- whether the frame is one of tag `p`
abbrev pub is_password : Bool → List ℕ → Bool
is_password true (tag ∷ rest) = tag == 112
is_password _ _ = false

-- the kinds that are known after a frame
abbrev pub kinds_behind : Bool → List ℕ → List code.PasswordKind → List code.PasswordKind
kinds_behind opened frame kinds = if is_password opened frame then drop 1 kinds else kinds

-- a whole opening packet that is no message, whatever comes after it
pub record IsRefusedPacket (opened : Bool) (bytes : List ℕ) : Type 0 where
  pub phase : opened ≡ false
  pub payload : List ℕ
  pub rest : List ℕ
  pub fits : length payload + 4 < 2 ^ 31
  pub whole : bytes ≡ framed None payload ++ rest
  pub error : ClientError
  pub blames : client.BlamesPacket payload error
  pub none : (kind : PasswordKind) → client.NoneStands kind opened bytes

-- No frame stands first: more bytes are missing; or nothing says where the next frame begins, as in bytes that are encrypted.
abbrev pub Ends : Side → Bool → List ℕ → Type 0
Ends (Server Beginning) stopped rest = (answered rest ≡ None) × IsEnding stopped rest
Ends (Server Messages) stopped rest = IsEnding stopped rest
Ends (Server Replicating) stopped rest = IsEnding stopped rest
Ends (Server Encrypted) false rest = rest ≡ []
Ends (Server Encrypted) true rest = 0 < length rest
Ends (Client opened kinds replicating) false rest = client.IsPartial opened rest
Ends (Client opened kinds replicating) true rest = client.IsLengthFault opened rest ⊎ IsRefusedPacket opened rest
