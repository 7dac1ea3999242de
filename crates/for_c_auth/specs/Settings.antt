-- The settings that a server reported, as they stand in memory of the caller's: the setting that was reported last first.
-- PostgreSQL manual, "Asynchronous Operations"; "Message Formats": ParameterStatus.
use Rattle.std.specs.Prelude.{◌≡◌, ◌≢◌, ◌<◌, ℕ, zero, suc, ◌+◌, List, [], ◌∷◌, ◌++◌, drop, length, take, Option, Some, None, if◌then◌else◌, ◌==◌}
use Rattle.pgp_base.specs.Wire.{text}
use Rattle.pgp_message.specs.BackendMessage.{Message, ParameterStatus}
use Rattle.pgp_message.specs.Parts.{Setting}
pub use Rattle.pgp_message.specs.Parts.{value_of, without}
use Rattle.for_c_auth.specs.declared.settings.PgpSettings.{PgpSettings}

-- the texts that a byte 0 ends, one behind another; what stands behind the last 0 is none
abbrev pub with_first : ℕ → List (List ℕ) → List (List ℕ)
with_first b [] = []
with_first b (t ∷ more) = (b ∷ t) ∷ more

unfoldable pub texts : List ℕ → List (List ℕ)
texts [] = []
texts (zero ∷ rest) = [] ∷ texts rest
texts (suc b ∷ rest) = with_first (suc b) (texts rest)

-- a name and a value at a time
abbrev pub pairs : List (List ℕ) → List Setting
pairs [] = []
pairs (name ∷ []) = []
pairs (name ∷ value ∷ more) = record { name = name; value = value } ∷ pairs more

-- the settings that bytes have, whatever they are
abbrev pub settings_of : List ℕ → List Setting
settings_of bytes = pairs (texts bytes)

-- a setting as a ParameterStatus has it
abbrev pub spelled : Setting → List ℕ
spelled s = text s.name ++ text s.value

-- the bytes that the caller keeps, and their settings
abbrev pub kept_bytes : PgpSettings → List ℕ
kept_bytes p = take p.len p.room.now

abbrev pub kept_in : PgpSettings → List Setting
kept_in p = settings_of (kept_bytes p)

-- After a message, where memory of so many bytes is given: a setting that it reports stands first, and its former value is gone. Where no byte is given none is kept.
abbrev pub settled : ℕ → Message → List Setting → List Setting
settled given (ParameterStatus s) kept = if given == 0 then kept else s ∷ without s.name kept
settled given m kept = kept

-- how many bytes a setting of this name and this value has, if there is one
abbrev pub size_of : List ℕ → Option (List ℕ) → ℕ
size_of name None = 0
size_of name (Some value) = length (spelled (record { name = name; value = value }))

-- The setting that the message reports has no room in the memory, when its former value is gone.
abbrev pub IsFull : PgpSettings → Message → Type 0
IsFull p (ParameterStatus s) = (p.room.now ≢ []) × (length p.room.now + size_of s.name (value_of s.name (kept_in p)) < length (spelled s) + length (kept_bytes p))
IsFull p m = ⊥

-- *private*: where the setting of a name stands among bytes, from `start` to `end`; where there is none both are where all end

abbrev pub HasValueAt : List ℕ → ℕ → Option (List ℕ) → Type 0
HasValueAt bytes at None = Unit {0}
HasValueAt bytes at (Some value) = take (length value) (drop at bytes) ≡ value

pub record StandsAt (name bytes : List ℕ) (start end : ℕ) : Type 0 where
  pub size : start + size_of name (value_of name (settings_of bytes)) ≡ end
  pub within : end < suc (length bytes)
  pub value : HasValueAt bytes (start + length name + 1) (value_of name (settings_of bytes))
  pub others : settings_of (take start bytes ++ drop end bytes) ≡ without name (settings_of bytes)
