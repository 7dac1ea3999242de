-- Frames of a side that differ in their secrets alone.
use Rattle.std.specs.Prelude.{◌≡◌, ℕ, Bool, List, get_or, Err}
use Rattle.pgtrace_session.specs.Common.{ClientError, PasswordKind, Side}
use Rattle.pgtrace_lines.specs.ClientSecrets.{AlikeClientFrames, ReadsAs}
pub use Rattle.pgtrace_lines.specs.Secrets.{AlikeReceived}
use Rattle.pgtrace_lines.specs.Sides.{Server, Client}

-- a client's: of one that is rejected the tag and the first byte of its payload are the same, by which it may be a request
pub record AlikeSent (opened : Bool) (kinds : List PasswordKind) (frame other : List ℕ) : Type 0 where
  pub alike : AlikeClientFrames opened kinds frame other
  pub rejected : (e : ClientError) (now : Bool) → ReadsAs opened kinds frame (Err e) now → (get_or frame 0 0 ≡ get_or other 0 0) × (get_or frame 5 0 ≡ get_or other 5 0)

abbrev pub AlikeIn : Side → (frame other : List ℕ) → Type 0
AlikeIn (Server phase) frame other = AlikeReceived frame other
AlikeIn (Client opened kinds replicating) frame other = AlikeSent opened kinds frame other
