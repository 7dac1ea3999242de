-- A recording of a connection: what it begins with, and then its chunks, in the order in which they came.
use Rattle.std.specs.Prelude.{◌≡◌, ◌≢◌, ◌⊎◌, ⊤, ℕ, ◌<◌, ◌^◌, Bool, true, false, List, [], ◌∷◌, ◌++◌, length, codes}
use Rattle.pgtrace_session.specs.Common.{flat_map, AllByRecursion, Sender, Client, Server, End, Whole, Cut, NoChunk, NoRecording}
use Rattle.pgp_base.specs.Wire.{uint32, uint64}

-- bytes that came at once: who sent them, and when, in microseconds since 1970
pub record Chunk : Type 0 where
  pub sender : Sender
  pub micros : ℕ
  pub bytes : List ℕ

-- `>` for the client's bytes, and `<` for the server's
abbrev pub arrow : Sender → ℕ
arrow Client = 62
arrow Server = 60

-- its arrow, its time, how many bytes it has, and the bytes
abbrev pub chunk_bytes : Chunk → List ℕ
chunk_bytes c = arrow c.sender ∷ uint64 c.micros ++ uint32 (length c.bytes) ++ c.bytes

pub record IsChunk (c : Chunk) : Type 0 where
  pub time : c.micros < 2 ^ 64
  pub fits : length c.bytes < 2 ^ 32

-- a recording begins so
abbrev pub magic : List ℕ
magic = codes "pgtrace recording 1" ++ 10 ∷ []

abbrev pub beginning : (begun : Bool) → List ℕ
beginning false = []
beginning true = magic

-- The bytes are a recording's beginning, these chunks one after another, and a rest; or all are rest, where not even the beginning stands there.
pub record Records (bytes : List ℕ) (begun : Bool) (chunks : List Chunk) (rest : List ℕ) : Type 0 where
  pub whole : bytes ≡ beginning begun ++ flat_map chunk_bytes chunks ++ rest
  pub each : AllByRecursion IsChunk chunks
  pub none : begun ≡ false → chunks ≡ []

-- no chunk begins so
abbrev pub IsNoChunk : List ℕ → Type 0
IsNoChunk [] = ⊥
IsNoChunk (first ∷ rest) = (sender : Sender) → first ≢ arrow sender

-- more bytes are announced than stand there
pub record IsShort (bytes : List ℕ) : Type 0 where
  pub micros : ℕ
  pub len : ℕ
  pub rest : List ℕ
  pub time : micros < 2 ^ 64
  pub fits : len < 2 ^ 32
  pub parts : bytes ≡ uint64 micros ++ uint32 len ++ rest
  pub missing : length rest < len

-- a chunk that isn't whole, or nothing
abbrev pub IsPartial : List ℕ → Type 0
IsPartial [] = ⊤
IsPartial (first ∷ rest) = ((sender : Sender) × (first ≡ arrow sender)) × ((length rest < 12) ⊎ IsShort rest)

-- how a recording ends that has this rest
abbrev pub EndsBy : (begun : Bool) → List ℕ → End → Type 0
EndsBy true rest Whole = rest ≡ []
EndsBy true rest Cut = (0 < length rest) × IsPartial rest
EndsBy true rest NoChunk = IsNoChunk rest
EndsBy true rest NoRecording = ⊥
EndsBy false rest Whole = ⊥
EndsBy false rest Cut = ⊥
EndsBy false rest NoChunk = ⊥
EndsBy false rest NoRecording = (more : List ℕ) → rest ≢ magic ++ more

-- what is said of the end on standard error, and the status
abbrev pub complaint_of : End → List ℕ
complaint_of Whole = []
complaint_of Cut = codes "pgtrace: the recording ends inside a chunk" ++ 10 ∷ []
complaint_of NoChunk = codes "pgtrace: what follows in the recording is no chunk" ++ 10 ∷ []
complaint_of NoRecording = codes "pgtrace: this is no recording: it begins otherwise" ++ 10 ∷ []

abbrev pub status_of : End → ℕ
status_of Whole = 0
status_of Cut = 0
status_of NoChunk = 1
status_of NoRecording = 1
