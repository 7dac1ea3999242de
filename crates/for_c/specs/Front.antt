-- What is reported of the front of a server's stream.
use Rattle.std.specs.Prelude.{◌≡◌, ◌≢◌, ℕ, ◌-◌, ◌<◌, ◌≤◌, ◌^◌, List, ◌∷◌, length, take, drop, Option, Some, None, Result, Ok, Err}
use Rattle.pgp_base.specs.Error.{number_of}
use Rattle.pgp_base.specs.declared.error.Error.{Error}
use Rattle.pgp_base.specs.declared.error.Error.TheVariants.{UnexpectedEof}
use Rattle.pgp_message.specs.BackendMessage.{Message, copy_formats}
use Rattle.pgp_message.specs.Parts.{CopyFormats}
use Rattle.pgp_message.specs.Stream.{Step}
use Rattle.for_c.specs.declared.front.PgpMessage.{PgpMessage}
use Rattle.for_c.specs.declared.front.PgpParts.{PgpParts}
use Rattle.for_c.specs.Missing.{IsMissing}
use Rattle.for_c.specs.Parts.{IsInside, kind_of, no_parts, part, Shows}

-- What is reported of a frame that `pgp_message` reads no message of. Two kinds of messages are unknown there (PostgreSQL manual, "Message Formats"):
-- a CopyBothResponse has the parts of a CopyOutResponse, whose formats end the frame, and a FunctionCallResponse the one value of a row, which is all behind the header.
pub data SaysUnread (bytes : List ℕ) (frame tag : ℕ) (e : Error) : PgpParts → (kind code : ℕ) → Type 0 where
  CopyBoth : (c : CopyFormats) → tag ≡ 0x57 → c.count < 2 ^ 16 → drop 5 (take frame bytes) ≡ copy_formats c
      → SaysUnread bytes frame tag e (record no_parts { first = part 8 (frame - 8); count = c.count; byte = c.format }) 33 0
  CutShort : tag ≡ 0x57 → length (drop 5 (take frame bytes)) < 3 → SaysUnread bytes frame tag e no_parts 0 (number_of UnexpectedEof)
  CallResult : tag ≡ 0x56 → SaysUnread bytes frame tag e (record no_parts { first = part 5 (frame - 5); count = 1 }) 34 0
  Unknown : tag ≢ 0x56 → tag ≢ 0x57 → SaysUnread bytes frame tag e no_parts 0 (number_of e)

-- The code, the kind and the parts by what one step came to; 100: bytes are missing.
abbrev pub Says : List ℕ → Result (Option Message) Error → PgpMessage → ℕ → Type 0
Says bytes (Ok None) p code = (p.parts ≡ no_parts) × (p.kind ≡ 0) × (code ≡ 100)
Says bytes (Ok (Some m)) p code = Shows bytes m p.parts × (p.kind ≡ kind_of m) × (code ≡ 0)
Says bytes (Err e) p code = SaysUnread bytes p.frame p.tag e p.parts p.kind code

-- how many bytes are missing, after a tag and a length
abbrev pub Misses : List ℕ → Result (Option Message) Error → ℕ → Type 0
Misses bytes (Ok None) missing = IsMissing 1 bytes missing
Misses bytes r missing = missing ≡ 0

-- One step along the stream takes the frame; what it came to is reported by the code and the kind, and the parts are those that stand at their
-- places among the bytes, inside the frame. The tag is the first byte of what was taken.
pub record Reported (bytes : List ℕ) (message : PgpMessage) (code : ℕ) : Type 0 where
  pub result : Result (Option Message) Error
  pub step : Step ⊥ bytes result (drop message.frame bytes)
  pub within : message.frame ≤ length bytes
  pub says : Says bytes result message code
  pub missing : Misses bytes result message.missing
  pub first_inside : IsInside message.frame message.parts.first
  pub second_inside : IsInside message.frame message.parts.second
  pub tag_is : message.frame ≢ 0 → (rest : List ℕ) × (bytes ≡ message.tag ∷ rest)
  pub no_tag : message.frame ≡ 0 → message.tag ≡ 0
