-- Messages and streams that differ in their secrets alone.
use Rattle.std.specs.Prelude.{◌≡◌, ◌⊎◌, ℕ, false, List, [], ◌++◌, length, None, Result, Ok, Err}
use Rattle.pgtrace_lines.specs.Common.{AuthenticationMd5Password, AuthenticationGssContinue, AuthenticationSaslContinue, AuthenticationSaslFinal, Message, BackendKeyData, Authentication, Body, Error, Frame, frame_bytes, IsFrame, Style}
use Rattle.pgtrace_lines.specs.Sides.{AreAnswers, answered}
use Rattle.pgtrace_lines.specs.View.{View}

-- The salt of an MD5 answer, the texts of an exchange and the key of a cancel request may be others of the same length; all else is the same.
abbrev pub Alike : Message → Message → Type 0
Alike (Authentication (AuthenticationMd5Password salt)) (Authentication (AuthenticationMd5Password other)) = length salt ≡ length other
Alike (Authentication (AuthenticationGssContinue bytes)) (Authentication (AuthenticationGssContinue others)) = length bytes ≡ length others
Alike (Authentication (AuthenticationSaslContinue bytes)) (Authentication (AuthenticationSaslContinue others)) = length bytes ≡ length others
Alike (Authentication (AuthenticationSaslFinal bytes)) (Authentication (AuthenticationSaslFinal others)) = length bytes ≡ length others
Alike (BackendKeyData key) (BackendKeyData other) = (key.process_id ≡ other.process_id) × (length key.secret_key ≡ length other.secret_key)
Alike m n = m ≡ n

-- secrets aren't shown
abbrev pub quiet : Style → Style
quiet style = record { form = style.form; limit = style.limit; secrets = false }

-- nor are they in a listing
abbrev pub quietly : View → View
quietly view = record view { style = quiet view.style }

-- messages that are alike, or the same error
abbrev pub AlikeResults : Result Message Error → Result Message Error → Type 0
AlikeResults (Ok m) (Ok n) = Alike m n
AlikeResults (Err d) (Err e) = d ≡ e
AlikeResults r s = ⊥

-- frames of one tag and one length, whose bodies are alike; those of a FunctionCallResponse and of a CopyBothResponse have no secrets
pub record AlikeFrames (f g : Frame) : Type 0 where
  pub tagged : f.tag ≡ g.tag
  pub long : length (frame_bytes f) ≡ length (frame_bytes g)
  pub plain : (f.tag ≡ 86) ⊎ (f.tag ≡ 87) → f.payload ≡ g.payload
  pub bodies : (r : Result Message Error) → Body f.tag f.payload r → (s : Result Message Error) × Body g.tag g.payload s × AlikeResults r s

-- bytes that are such frames
pub record AlikeReceived (frame other : List ℕ) : Type 0 where
  pub first : Frame
  pub second : Frame
  pub one : frame ≡ frame_bytes first
  pub two : other ≡ frame_bytes second
  pub fits : IsFrame first
  pub holds : IsFrame second
  pub alike : AlikeFrames first second

-- bytes that are frames, each like that of the other bytes in its place
pub data AlikeStreams : List ℕ → List ℕ → Type 0 where
  NoFrames : AlikeStreams [] []
  OneAlike : {a b : List ℕ} (f g : Frame) → AlikeStreams a b → IsFrame f → IsFrame g → AlikeFrames f g → AlikeStreams (a ++ frame_bytes f) (b ++ frame_bytes g)

-- from the first byte of a connection on: the same answers of one byte, and then such frames
pub record AlikeBeginnings (a b : List ℕ) : Type 0 where
  pub answers : List ℕ
  pub first : List ℕ
  pub other : List ℕ
  pub one : a ≡ answers ++ first
  pub two : b ≡ answers ++ other
  pub plain : AreAnswers answers
  pub none : answered first ≡ None
  pub alike : AlikeStreams first other
