-- The messages inside the CopyData of a replication stream, and the parts of a line that has one. PostgreSQL manual, "Streaming Replication Protocol".
use Rattle.std.specs.Prelude.{◌≡◌, ◌⊎◌, ℕ, pos, ◌+◌, ◌<◌, ◌^◌, Bool, true, false, List, [], ◌∷◌, ◌++◌, length, Some, codes}
use Rattle.pgtrace_lines.specs.Common.{w64, cast_signed, uint32, uint64, Style, Part, Member, Word, Number, Lsn, Value, followed, key}
use Rattle.pgtrace_lines.specs.declared.inner.Inner as code
use Rattle.pgtrace_lines.specs.declared.inner.Inner.TheVariants as variants

-- The first two are a server's, the others a standby's.
pub data Inner : Type 0 where
  -- a part of the write-ahead log: the places of its first byte and of the log's end, the server's clock, and the data
  XLogData : (start end clock : ℕ) (bytes : List ℕ) → Inner
  -- the place of the log's end, the clock, and whether a reply is asked for
  Keepalive : (end clock reply : ℕ) → Inner
  -- the places behind what was written, flushed and applied, the clock, and whether a reply is asked for
  StatusUpdate : (written flushed applied clock reply : ℕ) → Inner
  -- the clock, and the oldest transactions that have to stay, each with its epoch
  Feedback : (clock xmin epoch catalog_xmin catalog_epoch : ℕ) → Inner

abbrev pub is_standbys : Inner → Bool
is_standbys (XLogData start end clock bytes) = false
is_standbys (Keepalive end clock reply) = false
is_standbys (StatusUpdate written flushed applied clock reply) = true
is_standbys (Feedback clock xmin epoch catalog_xmin catalog_epoch) = true

-- its letter, and its parts
abbrev pub spelled : Inner → List ℕ
spelled (XLogData start end clock bytes) = 119 ∷ uint64 start ++ uint64 end ++ uint64 clock ++ bytes
spelled (Keepalive end clock reply) = 107 ∷ uint64 end ++ uint64 clock ++ reply ∷ []
spelled (StatusUpdate written flushed applied clock reply) = 114 ∷ uint64 written ++ uint64 flushed ++ uint64 applied ++ uint64 clock ++ reply ∷ []
spelled (Feedback clock xmin epoch catalog_xmin catalog_epoch) = 104 ∷ uint64 clock ++ uint32 xmin ++ uint32 epoch ++ uint32 catalog_xmin ++ uint32 catalog_epoch

-- its numbers are numbers of their bits
abbrev pub Fits : Inner → Type 0
Fits (XLogData start end clock bytes) = (start < 2 ^ 64) × (end < 2 ^ 64) × (clock < 2 ^ 64)
Fits (Keepalive end clock reply) = (end < 2 ^ 64) × (clock < 2 ^ 64)
Fits (StatusUpdate written flushed applied clock reply) = (written < 2 ^ 64) × (flushed < 2 ^ 64) × (applied < 2 ^ 64) × (clock < 2 ^ 64)
Fits (Feedback clock xmin epoch catalog_xmin catalog_epoch) = (clock < 2 ^ 64) × (xmin < 2 ^ 32) × (epoch < 2 ^ 32) × (catalog_xmin < 2 ^ 32) × (catalog_epoch < 2 ^ 32)

-- the bytes are this message, of a standby or of a server
pub record IsInner (standby : Bool) (bytes : List ℕ) (m : Inner) : Type 0 where
  pub sent : is_standbys m ≡ standby
  pub fits : Fits m
  pub whole : bytes ≡ spelled m

-- microseconds since 2000, with a sign
abbrev pub clock_parts : ℕ → List Part
clock_parts clock = key (codes "clock") ∷ Number (cast_signed w64 clock) ∷ []

abbrev pub named : List ℕ → List Part
named name = Member (codes "inner") ∷ Word name ∷ []

abbrev pub inner_parts : Inner → List Part
inner_parts (XLogData start end clock bytes) =
    named (codes "XLogData") ++ key (codes "start") ∷ Lsn start ∷ key (codes "end") ∷ Lsn end ∷ clock_parts clock ++ key (codes "data") ∷ Value (Some bytes) ∷ []
inner_parts (Keepalive end clock reply) =
    named (codes "PrimaryKeepalive") ++ key (codes "end") ∷ Lsn end ∷ clock_parts clock ++ key (codes "reply") ∷ Number (pos reply) ∷ []
inner_parts (StatusUpdate written flushed applied clock reply) =
    named (codes "StandbyStatusUpdate") ++ key (codes "written") ∷ Lsn written ∷ key (codes "flushed") ∷ Lsn flushed ∷ key (codes "applied") ∷ Lsn applied ∷ clock_parts clock ++ key (codes "reply") ∷ Number (pos reply) ∷ []
inner_parts (Feedback clock xmin epoch catalog_xmin catalog_epoch) =
    named (codes "HotStandbyFeedback") ++ clock_parts clock ++ key (codes "xmin") ∷ Number (pos xmin) ∷ key (codes "epoch") ∷ Number (pos epoch)
    ∷ key (codes "catalog_xmin") ∷ Number (pos catalog_xmin) ∷ key (codes "catalog_epoch") ∷ Number (pos catalog_epoch) ∷ []

-- the data of a CopyData, as they are
abbrev pub data_parts : List ℕ → List Part
data_parts bytes = key (codes "data") ∷ Value (Some bytes) ∷ []

-- the line goes on with the parts of the message, or with the data where they are none
abbrev pub ShowsInner : (standby : Bool) → Style → (bytes old new : List ℕ) → Type 0
ShowsInner standby style bytes old new =
    ((m : Inner) × IsInner standby bytes m × (new ≡ followed style old (inner_parts m)))
    ⊎ (((m : Inner) → IsInner standby bytes m → ⊥) × (new ≡ followed style old (data_parts bytes)))

-- *private*: the code's messages
abbrev pub inner_view : code.Inner → Inner
inner_view (variants.XLogData start end clock bytes) = XLogData start end clock bytes.now
inner_view (variants.Keepalive end clock reply) = Keepalive end clock reply
inner_view (variants.StatusUpdate written flushed applied clock reply) = StatusUpdate written flushed applied clock reply
inner_view (variants.Feedback clock xmin epoch catalog_xmin catalog_epoch) = Feedback clock xmin epoch catalog_xmin catalog_epoch

-- *private*: bytes that begin with numbers, and what stands after them

pub record IsInt64 (bytes : List ℕ) (n : ℕ) (rest : List ℕ) : Type 0 where
  pub fits : n < 2 ^ 64
  pub whole : bytes ≡ uint64 n ++ rest
  pub long : length bytes ≡ length rest + 8

pub record IsInt32 (bytes : List ℕ) (n : ℕ) (rest : List ℕ) : Type 0 where
  pub fits : n < 2 ^ 32
  pub whole : bytes ≡ uint32 n ++ rest
  pub long : length bytes ≡ length rest + 4

pub record IsThree (bytes : List ℕ) (a b c : ℕ) (rest : List ℕ) : Type 0 where
  pub first : a < 2 ^ 64
  pub second : b < 2 ^ 64
  pub third : c < 2 ^ 64
  pub whole : bytes ≡ uint64 a ++ uint64 b ++ uint64 c ++ rest
  pub long : length bytes ≡ length rest + 24

pub record IsTwo (bytes : List ℕ) (a b : ℕ) (rest : List ℕ) : Type 0 where
  pub first : a < 2 ^ 32
  pub second : b < 2 ^ 32
  pub whole : bytes ≡ uint32 a ++ uint32 b ++ rest
  pub long : length bytes ≡ length rest + 8

pub record IsClockAndReply (bytes : List ℕ) (clock reply : ℕ) : Type 0 where
  pub fits : clock < 2 ^ 64
  pub whole : bytes ≡ uint64 clock ++ reply ∷ []
