-- A client's messages and streams that differ in their secrets alone.
use Rattle.std.specs.Prelude.{◌≡◌, ℕ, Bool, List, [], ◌++◌, length, Some, Result, Ok, Err}
use Rattle.pgtrace_lines.specs.Common.{ClientMessage, CancelRequest, PasswordMessage, SaslInitialResponse, SaslResponse, step_of, Step, ClientError}
use Rattle.pgp_frontend_read.specs.declared.message.PasswordKind.{PasswordKind}
use Rattle.pgtrace_lines.specs.Listing.{client_tag}
use Rattle.pgtrace_lines.specs.Sides.{Side, Client, expected, kinds_behind}

-- A password, the texts of an exchange and the key of a cancel request may be others of the same length; all else is the same.
abbrev pub AlikeMessages : ClientMessage → ClientMessage → Type 0
AlikeMessages (PasswordMessage password) (PasswordMessage other) = length password ≡ length other
AlikeMessages (SaslInitialResponse mechanism (Some response)) (SaslInitialResponse same (Some other)) = (mechanism ≡ same) × (length response ≡ length other)
AlikeMessages (SaslResponse response) (SaslResponse other) = length response ≡ length other
AlikeMessages (CancelRequest process key) (CancelRequest same other) = (process ≡ same) × (length key ≡ length other)
AlikeMessages x y = x ≡ y

-- messages that are alike, or the same error
abbrev pub AlikeAnswers : Result ClientMessage ClientError → Result ClientMessage ClientError → Type 0
AlikeAnswers (Ok x) (Ok y) = AlikeMessages x y
AlikeAnswers (Err d) (Err e) = d ≡ e
AlikeAnswers r s = ⊥

-- a step takes the frame, or passes it
abbrev pub ReadsAs : Bool → List PasswordKind → List ℕ → Result ClientMessage ClientError → Bool → Type 0
ReadsAs opened kinds frame result now = Step (expected kinds) (record { bytes = frame; opened = opened }) (step_of result) (record { bytes = []; opened = now })

-- frames of one tag and one length, which are read alike
pub record AlikeClientFrames (opened : Bool) (kinds : List PasswordKind) (f g : List ℕ) : Type 0 where
  pub tagged : client_tag opened f ≡ client_tag opened g
  pub long : length f ≡ length g
  pub read : (r : Result ClientMessage ClientError) (now : Bool) → ReadsAs opened kinds f r now → (s : Result ClientMessage ClientError) × ReadsAs opened kinds g s now × AlikeAnswers r s

-- bytes that are frames, each like that of the other bytes in its place; and what is known of the side after them
pub data AlikeClientStreams (from : Side) : List ℕ → List ℕ → Side → Type 0 where
  NoClientFrames : AlikeClientStreams from [] [] from
  OneClientAlike : {a b : List ℕ} {opened now replicating : Bool} {kinds : List PasswordKind} (result : Result ClientMessage ClientError) (f g : List ℕ) → AlikeClientStreams from a b (Client opened kinds replicating)
      → ReadsAs opened kinds f result now → AlikeClientFrames opened kinds f g → AlikeClientStreams from (a ++ f) (b ++ g) (Client now (kinds_behind opened f kinds) replicating)
