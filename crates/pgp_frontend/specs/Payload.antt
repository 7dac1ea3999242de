-- What each message of a client is made of, and why it has no spelling.
-- PostgreSQL manual, "Message Formats".
use Rattle.std.specs.Prelude.{ℕ, ◌+◌, ◌^◌, ◌<◌, ℤ, pos, List, [], ◌∷◌, ◌++◌, length, map, Option, Some, None, Result, FitsSigned, All, nat_le, if◌then◌else◌, ◌≡◌}
use Rattle.std.specs.List.{flat_map}
use Rattle.std.specs.Int.{w16, w32}
use Rattle.pgp_base.specs.Wire.{int16, int32, uint32, oid, text, counted, nullable, frame}
use Rattle.pgp_base.specs.Cause.{Cause, either, first, text_cause, length_cause, count_cause, nullable_cause, counted_cause, Writes}
use Rattle.pgp_base.specs.Held.{Held}
use Rattle.pgp_base.specs.declared.error.Error.{Error}
use Rattle.pgp_base.specs.declared.error.Error.TheVariants.{InvalidSize}
use Rattle.pgp_frontend.specs.declared.startup.ProtocolVersion.{ProtocolVersion}
use Rattle.pgp_frontend.specs.declared.startup.ProtocolVersion.TheVariants.{V3_0, V3_2}
use Rattle.pgp_frontend.specs.ClientMessage.{ClientMessage, Bind, Close, CopyData, CopyDone, CopyFail, Describe, Execute, Flush, Parse, PasswordMessage, Query, SaslInitialResponse, SaslResponse, Sync, Terminate, Startup, CancelRequest, SslRequest, GssEncRequest, FunctionCall, PasswordKind, Password, Initial, Response}

-- The parts of messages.
pub data Part : Type 0 where
  Byte : ℕ → Part
  Int16 : ℤ → Part
  Int32 : ℤ → Part
  Oid : ℕ → Part
  Text : List ℕ → Part
  -- a count, and each number, identifier or value
  Int16s : List ℤ → Part
  Oids : List ℕ → Part
  Values : List (Option (List ℕ)) → Part
  -- a length, and so many bytes; of a null -1 alone
  Nullable : Option (List ℕ) → Part
  -- all bytes that are left
  Rest : List ℕ → Part
  -- the same, of a cancel request's key
  Key : List ℕ → Part
  -- names and values, and a 0 byte after them
  Pairs : List (List ℕ × List ℕ) → Part

abbrev pub pair : List ℕ × List ℕ → List ℕ
pair p = text p.0 ++ text p.1

abbrev pub spelling : Part → List ℕ
spelling (Byte n) = n ∷ []
spelling (Int16 z) = int16 z
spelling (Int32 z) = int32 z
spelling (Oid n) = oid n
spelling (Text z) = text z
spelling (Int16s zs) = counted int16 zs
spelling (Oids ns) = counted oid ns
spelling (Values vs) = counted nullable vs
spelling (Nullable v) = nullable v
spelling (Rest z) = z
spelling (Key z) = z
spelling (Pairs ps) = flat_map pair ps ++ 0 ∷ []

abbrev pub pair_cause : List ℕ × List ℕ → Cause
pair_cause p = either (text_cause p.0) (text_cause p.1)

-- a key has 4 to 256 bytes, by this project's profile of protocol 3.2
abbrev pub key_cause : ℕ → Cause
key_cause n = if nat_le 4 n then (if nat_le n 256 then None else Some InvalidSize) else Some InvalidSize

abbrev pub part_cause : Part → Cause
part_cause (Byte n) = None
part_cause (Int16 z) = None
part_cause (Int32 z) = None
part_cause (Oid n) = None
part_cause (Text z) = text_cause z
part_cause (Int16s zs) = count_cause (length zs)
part_cause (Oids ns) = count_cause (length ns)
part_cause (Values vs) = counted_cause nullable_cause vs
part_cause (Nullable v) = nullable_cause v
part_cause (Rest z) = None
part_cause (Key z) = key_cause (length z)
part_cause (Pairs ps) = first (map pair_cause ps)

-- the numbers are in their fields' ranges
abbrev pub InRange : Part → Type 0
InRange (Byte n) = n < 256
InRange (Int16 z) = FitsSigned w16 z
InRange (Int32 z) = FitsSigned w32 z
InRange (Oid n) = n < 2 ^ 32
InRange (Int16s zs) = All (FitsSigned w16) zs
InRange (Oids ns) = All (λ n. n < 2 ^ 32) ns
InRange _ = Unit {0}

abbrev pub EachInRange : List Part → Type 0
EachInRange [] = Unit {0}
EachInRange (p ∷ ps) = InRange p × EachInRange ps

-- Messages: the tag, where there is one, and the parts in order.

abbrev pub tag_of : ClientMessage → Option ℕ
tag_of (Bind portal statement formats values result_formats) = Some 66
tag_of (Close variant name) = Some 67
tag_of (CopyData bytes) = Some 100
tag_of CopyDone = Some 99
tag_of (CopyFail message) = Some 102
tag_of (Describe variant name) = Some 68
tag_of (Execute portal max_rows) = Some 69
tag_of Flush = Some 72
tag_of (FunctionCall function formats arguments result_format) = Some 70
tag_of (Parse name query param_types) = Some 80
tag_of (PasswordMessage password) = Some 112
tag_of (Query query) = Some 81
tag_of (SaslInitialResponse mechanism response) = Some 112
tag_of (SaslResponse response) = Some 112
tag_of Sync = Some 83
tag_of Terminate = Some 88
tag_of (Startup minor parameters) = None
tag_of (CancelRequest process_id secret_key) = None
tag_of SslRequest = None
tag_of GssEncRequest = None

-- which of the messages of tag `p` it is
abbrev pub kind_of : ClientMessage → Option PasswordKind
kind_of (PasswordMessage password) = Some Password
kind_of (SaslInitialResponse mechanism response) = Some Initial
kind_of (SaslResponse response) = Some Response
kind_of _ = None

-- the number of a minor version of protocol 3
abbrev pub minor_code : ℕ → ℤ
minor_code minor = pos (196608 + minor)

-- the minor versions that are written; 3.2 is this project's profile
abbrev pub minor_of : ProtocolVersion → ℕ
minor_of V3_0 = 0
minor_of V3_2 = 2

abbrev pub version_code : ProtocolVersion → ℤ
version_code version = minor_code (minor_of version)

abbrev pub parts : ClientMessage → List Part
parts (Bind portal statement formats values result_formats) = Text portal ∷ Text statement ∷ Int16s formats ∷ Values values ∷ Int16s result_formats ∷ []
parts (Close variant name) = Byte variant ∷ Text name ∷ []
parts (CopyData bytes) = Rest bytes ∷ []
parts CopyDone = []
parts (CopyFail message) = Text message ∷ []
parts (Describe variant name) = Byte variant ∷ Text name ∷ []
parts (Execute portal max_rows) = Text portal ∷ Int32 max_rows ∷ []
parts Flush = []
parts (FunctionCall function formats arguments result_format) = Oid function ∷ Int16s formats ∷ Values arguments ∷ Int16 result_format ∷ []
parts (Parse name query param_types) = Text name ∷ Text query ∷ Oids param_types ∷ []
parts (PasswordMessage password) = Text password ∷ []
parts (Query query) = Text query ∷ []
parts (SaslInitialResponse mechanism response) = Text mechanism ∷ Nullable response ∷ []
parts (SaslResponse response) = Rest response ∷ []
parts Sync = []
parts Terminate = []
-- the codes: a version's number, and what stands in the place of one
parts (Startup minor parameters) = Int32 (minor_code minor) ∷ Pairs parameters ∷ []
parts (CancelRequest process_id secret_key) = Int32 (pos 80877102) ∷ Int32 process_id ∷ Key secret_key ∷ []
parts SslRequest = Int32 (pos 80877103) ∷ []
parts GssEncRequest = Int32 (pos 80877104) ∷ []

-- these parts, one after another
abbrev pub joined : List Part → List ℕ
joined ps = flat_map spelling ps

abbrev pub payload : ClientMessage → List ℕ
payload m = joined (parts m)

-- a tagged message is a frame; an opening packet begins with its length
abbrev pub framed : Option ℕ → List ℕ → List ℕ
framed (Some tag) body = frame tag body
framed None body = uint32 (length body + 4) ++ body

abbrev pub bytes_of : ClientMessage → List ℕ
bytes_of m = framed (tag_of m) (payload m)

-- the first cause of these parts, from the left
abbrev pub parts_cause : List Part → Cause
parts_cause ps = first (map part_cause ps)

-- a frame's own length stands after its parts
abbrev pub frame_cause : List Part → Cause
frame_cause ps = either (parts_cause ps) (length_cause (length (joined ps) + 4))

-- why a message has no spelling
abbrev pub cause : ClientMessage → Cause
cause m = frame_cause (parts m)

-- a minor version has 16 bits
abbrev pub HasMinor : ClientMessage → Type 0
HasMinor (Startup minor parameters) = minor < 2 ^ 16
HasMinor _ = Unit {0}

abbrev pub IsInRange : ClientMessage → Type 0
IsInRange m = EachInRange (parts m) × HasMinor m

-- A writer of these parts after this tag: it appends the frame, and there is no cause; or it leaves
-- the bytes, and is refused for want of the memory that the frame needs, or for the first cause.
abbrev pub WritesFrame : {K : Type 0} → Option ℕ → List Part → (Held K → ℕ → Type 0) → Held K → Held K → Result (Unit {0}) Error → Type 0
WritesFrame tag ps lacks old new result = Writes (framed tag (joined ps)) (frame_cause ps) lacks old new result

-- The call of a writer of the message.
abbrev pub WritesMessage : {K : Type 0} → ClientMessage → (Held K → ℕ → Type 0) → Held K → Held K → Result (Unit {0}) Error → Type 0
WritesMessage m lacks old new result = IsInRange m × Writes (bytes_of m) (cause m) lacks old new result

-- the message has a spelling, and it was appended
pub record Added (m : ClientMessage) (old new : List ℕ) : Type 0 where
  pub none : cause m ≡ None
  pub in_range : IsInRange m
  pub bytes : new ≡ old ++ bytes_of m

-- a reply was appended, or there is none
abbrev pub AddsReply : Option ClientMessage → List ℕ → List ℕ → Type 0
AddsReply None old new = new ≡ old
AddsReply (Some m) old new = Added m old new
