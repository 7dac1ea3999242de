-- One step of a server along a client's bytes.
use Rattle.std.specs.Prelude.{◌≡◌, ◌≢◌, ◌⊎◌, ℕ, ◌+◌, ◌≤◌, ◌<◌, ◌^◌, Bool, true, false, ◌||◌, ℤ, List, ◌∷◌, ◌++◌, length, map, take, drop, FitsSigned, Option, Some, None, Result, Ok, Err, IfSome}
use Rattle.std.specs.Int.{w32, from_be_bytes}
use Rattle.std.specs.Borrow.{Bor}
use Rattle.pgp_base.specs.Wire.{uint32, int32}
use Rattle.pgp_base.specs.declared.error.Error.{Error}
use Rattle.pgp_base.specs.declared.error.Error.TheVariants.{InvalidLength, UnknownTag}
use Rattle.pgp_frontend.specs.ClientMessage.{ClientMessage, PasswordKind}
use Rattle.pgp_frontend.specs.Payload.{Part, Int32, parts, tag_of, kind_of, framed, bytes_of, HasMinor}
use Rattle.pgp_frontend.specs.Reading.{shape, IsSpelled}
use Rattle.pgp_frontend.specs.ClientRun.{is_startup}
use Rattle.pgp_frontend_read.specs.Faults.{Faulty}
use Rattle.pgp_frontend_read.specs.declared.error.ClientError.{ClientError}
use Rattle.pgp_frontend_read.specs.declared.error.ClientError.TheVariants.{UnknownPacket, Reading}

-- what wasn't read yet, and whether a startup packet was
pub record Unread : Type 0 where
  pub bytes : List ℕ
  pub opened : Bool

-- In this phase, and given this kind, the server reads the message.
abbrev pub IsExpected : PasswordKind → Bool → ClientMessage → Type 0
IsExpected kind false m = tag_of m ≡ None
IsExpected kind true m = (tag_of m ≢ None) × IfSome (kind_of m) (λ k. k ≡ kind)

-- the message stands at the front of the bytes
pub record Stands (kind : PasswordKind) (opened : Bool) (bytes : List ℕ) (m : ClientMessage) (rest : List ℕ) : Type 0 where
  pub expected : IsExpected kind opened m
  pub spelled : IsSpelled m
  pub whole : bytes ≡ bytes_of m ++ rest

-- Whatever comes after the bytes, no message stands at their front.
abbrev pub NoneStands : PasswordKind → Bool → List ℕ → Type 0
NoneStands kind opened bytes = (m : ClientMessage) (more rest : List ℕ) → Stands kind opened (bytes ++ more) m rest → ⊥

-- The length of a tagged message stands after its tag, that of an opening packet stands first. It counts its own four
-- bytes, and in an opening packet a code stands after it.
abbrev pub place : Bool → ℕ
place true = 1
place false = 0

abbrev pub least : Bool → ℕ
least true = 4
least false = 8

-- the length that is read there
abbrev pub announced : Bool → List ℕ → ℕ
announced opened bytes = from_be_bytes w32 (take 4 (drop (place opened) bytes))

-- the bytes begin with this length
pub record BeginsWithLength (opened : Bool) (bytes : List ℕ) (len : ℕ) : Type 0 where
  pub front : List ℕ
  pub rest : List ℕ
  pub at : length front ≡ place opened
  pub fits : len < 2 ^ 32
  pub parts : bytes ≡ front ++ uint32 len ++ rest

-- a length that no message has
pub record IsLengthFault (opened : Bool) (bytes : List ℕ) : Type 0 where
  pub len : ℕ
  pub begins : BeginsWithLength opened bytes len
  pub wrong : (len < least opened) ⊎ (2 ^ 31 ≤ len)

-- the front of a message of which bytes are missing
pub record IsUnfinished (opened : Bool) (bytes : List ℕ) : Type 0 where
  pub len : ℕ
  pub begins : BeginsWithLength opened bytes len
  pub enough : least opened ≤ len
  pub fits : len < 2 ^ 31
  pub missing : length begins.rest + 4 < len

-- too few bytes for a length, or a partial message
abbrev pub IsPartial : Bool → List ℕ → Type 0
IsPartial opened bytes = (length bytes < place opened + 4) ⊎ IsUnfinished opened bytes

-- No message has the tag.
abbrev pub IsUnknownTag : ℕ → ClientError → Type 0
IsUnknownTag tag e = (e ≡ Reading (UnknownTag tag)) × ((m : ClientMessage) → tag_of m ≢ Some tag)

-- A message has the tag, and may come where this kind is given; the payload isn't parts of its
-- shapes.
pub record HasFaultyBody (kind : PasswordKind) (tag : ℕ) (payload : List ℕ) (e : ClientError) : Type 0 where
  pub message : ClientMessage
  pub tagged : tag_of message ≡ Some tag
  pub reported : IfSome (kind_of message) (λ k. k ≡ kind)
  pub fault : Error
  pub faulty : Faulty (map shape (parts message)) payload fault
  pub name : e ≡ Reading fault

-- why a frame is no message
abbrev pub BlamesFrame : PasswordKind → ℕ → List ℕ → ClientError → Type 0
BlamesFrame kind tag payload e = IsUnknownTag tag e ⊎ HasFaultyBody kind tag payload e

-- The payload begins with the code of no opening packet.
pub record IsUnknownPacket (payload : List ℕ) (e : ClientError) : Type 0 where
  pub code : ℤ
  pub rest : List ℕ
  pub fits : FitsSigned w32 code
  pub whole : payload ≡ int32 code ++ rest
  pub unknown : (m : ClientMessage) (ps : List Part) → tag_of m ≡ None → HasMinor m → parts m ≢ Int32 code ∷ ps
  pub name : e ≡ UnknownPacket code

-- An opening packet has the code that the payload begins with, and what follows isn't parts of its shapes.
pub record HasFaultyPacket (payload : List ℕ) (e : ClientError) : Type 0 where
  pub message : ClientMessage
  pub untagged : tag_of message ≡ None
  pub minor : HasMinor message
  pub code : ℤ
  pub others : List Part
  pub are : parts message ≡ Int32 code ∷ others
  pub rest : List ℕ
  pub whole : payload ≡ int32 code ++ rest
  pub fault : Error
  pub faulty : Faulty (map shape others) rest fault
  pub name : e ≡ Reading fault

-- why an opening packet is none
abbrev pub BlamesPacket : List ℕ → ClientError → Type 0
BlamesPacket payload e = IsUnknownPacket payload e ⊎ HasFaultyPacket payload e

-- A complete frame stands first, and is passed.
pub record SkipsFrame (kind : PasswordKind) (old : Unread) (e : ClientError) (new : Unread) : Type 0 where
  pub tag : ℕ
  pub payload : List ℕ
  pub phase : old.opened ≡ true
  pub fits : length payload + 4 < 2 ^ 31
  pub whole : old.bytes ≡ framed (Some tag) payload ++ new.bytes
  pub same : new.opened ≡ true
  pub blames : BlamesFrame kind tag payload e

-- A whole opening packet stands first, and is left where it is.
pub record StopsAt (old : Unread) (e : ClientError) (new : Unread) : Type 0 where
  pub payload : List ℕ
  pub rest : List ℕ
  pub phase : old.opened ≡ false
  pub fits : length payload + 4 < 2 ^ 31
  pub whole : old.bytes ≡ framed None payload ++ rest
  pub same : new ≡ old
  pub blames : BlamesPacket payload e

-- No message has the length that stands there.
pub record StopsAtLength (old : Unread) (e : ClientError) (new : Unread) : Type 0 where
  pub name : e ≡ Reading InvalidLength
  pub fault : IsLengthFault old.opened old.bytes
  pub same : new ≡ old

-- the message stood at the front, and what follows it is left
pub record Takes (kind : PasswordKind) (old : Unread) (m : ClientMessage) (new : Unread) : Type 0 where
  pub stands : Stands kind old.opened old.bytes m new.bytes
  pub phase : new.opened ≡ (old.opened || is_startup m)

-- no message stands there, whatever comes; and what is left
pub record Refuses (kind : PasswordKind) (old : Unread) (e : ClientError) (new : Unread) : Type 0 where
  pub none : NoneStands kind old.opened old.bytes
  pub left : StopsAtLength old e new ⊎ (SkipsFrame kind old e new ⊎ StopsAt old e new)

abbrev pub Step : PasswordKind → Unread → Result (Option ClientMessage) ClientError → Unread → Type 0
Step kind old (Ok (Some m)) new = Takes kind old m new
Step kind old (Ok None) new = IsPartial old.opened old.bytes × (new ≡ old)
Step kind old (Err e) new = Refuses kind old e new

-- The same step, which also hands out the bytes of the message that it takes.
abbrev pub TakesWithBytes : PasswordKind → Unread → Result (Option (ClientMessage × List ℕ)) ClientError → Unread → Type 0
TakesWithBytes kind old (Ok (Some x)) new = Step kind old (Ok (Some x.0)) new × (x.1 ≡ bytes_of x.0)
TakesWithBytes kind old (Ok None) new = Step kind old (Ok None) new
TakesWithBytes kind old (Err e) new = Step kind old (Err e) new

-- What stands at the front, by its length alone: a tag and a payload, and what follows.
pub record IsFront (tag : Option ℕ) (payload rest bytes : List ℕ) : Type 0 where
  pub whole : bytes ≡ framed tag payload ++ rest
  pub fits : length payload + 4 < 2 ^ 31

abbrev pub FindsFrame : List ℕ → Result (Option (ℕ × Bor (List ℕ) × Bor (List ℕ))) Error → Type 0
FindsFrame bytes (Ok None) = IsPartial true bytes
FindsFrame bytes (Ok (Some f)) = IsFront (Some f.0) f.1.now f.2.now bytes
FindsFrame bytes (Err e) = (e ≡ InvalidLength) × IsLengthFault true bytes

abbrev pub FindsPacket : List ℕ → Result (Option (Bor (List ℕ) × Bor (List ℕ))) Error → Type 0
FindsPacket bytes (Ok None) = IsPartial false bytes
FindsPacket bytes (Ok (Some f)) = IsFront None f.0.now f.1.now bytes × (4 ≤ length f.0.now)
FindsPacket bytes (Err e) = (e ≡ InvalidLength) × IsLengthFault false bytes
