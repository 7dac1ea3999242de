-- The settings that a server reported, each by its last report, and with them what it says of its session.
-- PostgreSQL manual, "Asynchronous Operations"; "Message Formats": ParameterStatus.
use Rattle.std.specs.Prelude.{◌≡◌, ◌⊎◌, ◌≤◌, ◌<◌, ℕ, ◌+◌, ◌-◌, Bool, true, List, [], ◌∷◌, length, get_or, slice_set, Option, Some, None, Result, Ok, Err, if◌then◌else◌}
use Rattle.std.specs.Cmp.Lexicographic.{slice_cmp}
use Rattle.std.specs.List.{AllByRecursion, insert, sum_by}
use Rattle.std.specs.Ordering.{is_lt, nat_cmp}
use Rattle.std.specs.Str.{bytes_eq}
use Rattle.pgp_base.specs.Cause.{WantsMemory}
use Rattle.pgp_base.specs.declared.error.Error.{Error}
use Rattle.pgp_base.specs.declared.error.Error.TheVariants.{TooLarge}
use Rattle.pgp_message.specs.BackendMessage.{Message, ParameterStatus}
use Rattle.pgp_message.specs.Parts.{Setting}
pub use Rattle.pgp_message.specs.Parts.{value_of, without}
use Rattle.pgp_session.specs.ServerState.{newer, noted, unsaid}
use Rattle.pgp_session.specs.declared.server_state.ServerState.{ServerState}

-- the setting that a message reports: that of a ParameterStatus
abbrev pub setting_in : Message → Option Setting
setting_in (ParameterStatus s) = Some s
setting_in m = None

-- ---- what was reported last

-- the value that it reports under this name
abbrev pub reported : List ℕ → Option Setting → Option (List ℕ)
reported name None = None
reported name (Some s) = if bytes_eq s.name name then Some s.value else None

abbrev pub last_after : List ℕ → Option (List ℕ) → List Message → Option (List ℕ)
last_after name before [] = before
last_after name before (m ∷ received) = last_after name (newer before (reported name (setting_in m))) received

-- the value that the last of the messages reports that reports one under this name
abbrev pub last_reported : List ℕ → List Message → Option (List ℕ)
last_reported name received = last_after name None received

-- ---- what is kept

-- the order of names, byte by byte
abbrev pub is_before : List ℕ → List ℕ → Bool
is_before a b = is_lt (slice_cmp nat_cmp a b)

-- with one more: it stands in the place of the earlier one of its name, or behind those of earlier names
abbrev pub replaced : Setting → List Setting → List Setting
replaced s [] = s ∷ []
replaced s (x ∷ kept) = if bytes_eq x.name s.name then s ∷ kept else if is_before x.name s.name then x ∷ replaced s kept else s ∷ x ∷ kept

abbrev pub settled : Option Setting → List Setting → List Setting
settled None kept = kept
settled (Some s) kept = replaced s kept

-- how many bytes are kept at most
abbrev pub most : ℕ
most = 65536

-- what a setting takes: its name, its value, and 128 bytes, so that many short ones are no way past the limit
abbrev pub cost : Setting → ℕ
cost s = 128 + (length s.name + length s.value)

abbrev pub size : List Setting → ℕ
size kept = sum_by cost kept

-- It has room in what the settings of other names leave of the limit.
abbrev pub HasRoom : ℕ → Option Setting → List Setting → Type 0
HasRoom limit None kept = Unit {0}
HasRoom limit (Some s) kept = cost s ≤ limit - size (without s.name kept)

-- why it isn't kept
abbrev pub IsUnkept : Type 0 → ℕ → Option Setting → List Setting → Error → Type 0
IsUnkept lacks limit None kept e = ⊥
IsUnkept lacks limit (Some s) kept e = WantsMemory lacks e ⊎ ((e ≡ TooLarge) × (limit - size (without s.name kept) < cost s))

-- What becomes of a report, where there is one.
abbrev pub Keeps : Type 0 → ℕ → Option Setting → List Setting → List Setting → Result (Unit {0}) Error → Type 0
Keeps lacks limit s old new (Ok done) = HasRoom limit s old × (new ≡ settled s old)
Keeps lacks limit s old new (Err e) = IsUnkept lacks limit s old e × (new ≡ old)

-- ---- what a server says of its session

pub record Said : Type 0 where
  pub state : ServerState
  pub settings : List Setting

abbrev pub nothing_said : Said
nothing_said = record { state = unsaid; settings = [] }

abbrev pub heard : Message → Said → Said
heard m s = record { state = noted m s.state; settings = settled (setting_in m) s.settings }

-- after messages
abbrev pub said_after : Said → List Message → Said
said_after s [] = s
said_after s (m ∷ received) = said_after (heard m s) received

-- ---- *private*: where the setting of a name stands among those that are kept, or where it has its place

abbrev pub AreInOrder : List Setting → Type 0
AreInOrder [] = Unit {0}
AreInOrder (s ∷ kept) = AllByRecursion (λ x. is_before s.name x.name ≡ true) kept × AreInOrder kept

abbrev pub IsPlace : Result ℕ ℕ → List Setting → Type 0
IsPlace (Ok i) kept = i < length kept
IsPlace (Err i) kept = i ≤ length kept

abbrev pub put_in : Result ℕ ℕ → Setting → List Setting → List Setting
put_in (Ok i) s kept = slice_set kept i s
put_in (Err i) s kept = insert kept i s

abbrev pub value_at : Result ℕ ℕ → List Setting → Setting → Option (List ℕ)
value_at (Ok i) kept d = Some (get_or kept i d).value
value_at (Err i) kept d = None

abbrev pub cost_at : Result ℕ ℕ → List Setting → Setting → ℕ
cost_at (Ok i) kept d = cost (get_or kept i d)
cost_at (Err i) kept d = 0

pub record StandsAt (name : List ℕ) (kept : List Setting) (place : Result ℕ ℕ) : Type 0 where
  pub is_place : IsPlace place kept
  pub value : (d : Setting) → value_of name kept ≡ value_at place kept d
  pub put : (value : List ℕ) → replaced (record { name = name; value = value }) kept ≡ put_in place (record { name = name; value = value }) kept
  pub rest : (d : Setting) → size kept ≡ cost_at place kept d + size (without name kept)
  pub grown : (value : List ℕ) → size (replaced (record { name = name; value = value }) kept) ≡ cost (record { name = name; value = value }) + size (without name kept)
