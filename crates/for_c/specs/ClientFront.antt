-- What is reported of the front of a client's stream.
use Rattle.std.specs.Prelude.{◌≡◌, ◌≢◌, ℕ, ◌≤◌, ◌==◌, Bool, true, false, List, ◌∷◌, length, drop, Option, Some, None, Result, Ok, Err, if◌then◌else◌}
use Rattle.pgp_base.specs.Error.{number_of}
use Rattle.pgp_frontend.specs.ClientMessage.{ClientMessage, PasswordKind, Password, Initial, Response}
use Rattle.pgp_frontend_read.specs.Step.{Step, place}
use Rattle.pgp_frontend_read.specs.Views.{kind_view}
use Rattle.pgp_frontend_read.specs.declared.error.ClientError.{ClientError}
use Rattle.pgp_frontend_read.specs.declared.error.ClientError.TheVariants.{UnknownPacket, Reading}
use Rattle.pgp_frontend_read.specs.declared.message.PasswordKind as code
use Rattle.for_c.specs.ClientParts.{ArePartsInside, Shows, kind_of, no_client_parts}
use Rattle.for_c.specs.Missing.{IsMissing}
use Rattle.for_c.specs.declared.client_front.PgpClientMessage.{PgpClientMessage}

-- which message of tag `p` a number says
abbrev pub password_kind_at : ℕ → Option PasswordKind
password_kind_at n =
    if n == 0 then Some Password
    else (if n == 1 then Some Initial
    else (if n == 2 then Some Response
    else None))

abbrev pub kind_seen : Option code.PasswordKind → Option PasswordKind
kind_seen None = None
kind_seen (Some kind) = Some (kind_view kind)

-- 100: bytes are missing; 38: no opening packet has the code
abbrev pub code_of : Result (Option ClientMessage) ClientError → ℕ
code_of (Ok (Some m)) = 0
code_of (Ok None) = 100
code_of (Err (Reading e)) = number_of e
code_of (Err (UnknownPacket code)) = 38

abbrev pub kind_reported : Result (Option ClientMessage) ClientError → ℕ
kind_reported (Ok (Some m)) = kind_of m
kind_reported r = 0

-- the code of an opening packet that is none is its number
abbrev pub ShowsAll : List ℕ → Result (Option ClientMessage) ClientError → PgpClientMessage → Type 0
ShowsAll bytes (Ok (Some m)) p = Shows bytes m p.parts
ShowsAll bytes (Err (UnknownPacket code)) p = p.parts ≡ record no_client_parts { number = code }
ShowsAll bytes r p = p.parts ≡ no_client_parts

-- how many bytes are missing, after the place of a length in this phase
abbrev pub Misses : Bool → List ℕ → Result (Option ClientMessage) ClientError → ℕ → Type 0
Misses opened bytes (Ok None) missing = IsMissing (place opened) bytes missing
Misses opened bytes r missing = missing ≡ 0

-- One step of a server along the stream, in this phase and where this kind is expected, takes the frame; its result is reported by the
-- code and the kind, and the message's parts are those that stand at their places among the bytes, inside the frame. The tag is the first
-- byte of what was taken, where that isn't an opening packet.
pub record ReportsClient (kind : PasswordKind) (bytes : List ℕ) (opened : Bool) (message : PgpClientMessage) (code : ℕ) : Type 0 where
  pub result : Result (Option ClientMessage) ClientError
  pub step : Step kind (record { bytes = bytes; opened = opened }) result (record { bytes = drop message.frame bytes; opened = message.is_open })
  pub within : message.frame ≤ length bytes
  pub code_is : code ≡ code_of result
  pub missing : Misses opened bytes result message.missing
  pub kind_is : message.kind ≡ kind_reported result
  pub shows : ShowsAll bytes result message
  pub inside : ArePartsInside message.frame message.parts
  pub tag_is : opened ≡ true → message.frame ≢ 0 → (rest : List ℕ) × (bytes ≡ message.tag ∷ rest)
  pub no_tag : message.frame ≡ 0 → message.tag ≡ 0
  pub opening : opened ≡ false → message.tag ≡ 0
