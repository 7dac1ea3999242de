-- What a filter of frames does with the bytes that came.
use Rattle.std.specs.Prelude.{◌≡◌, ◌⊎◌, ℕ, ℤ, pos, ◌+◌, ◌<◌, ◌≤◌, ◌≤ℤ◌, ◌<ℤ◌, List, ◌++◌, length, Option, Some, None, Result, Ok, Err}
use Rattle.pgp_base.specs.Held.{Held, ◌⊕◌}
use Rattle.pgp_message.specs.Header.{HeaderPart, IsHeader}
use Rattle.pgp_message.specs.Stream.{Frame, frame_bytes, IsFrame}
use Rattle.pgp_uses.specs.declared.filter.FilterError.{FilterError}
use Rattle.pgp_uses.specs.declared.filter.FilterError.TheVariants.{PastLimit, InvalidLength, OutOfMemory}

-- the frame at the front, whose length is at most the limit, stands after what was passed on before
pub record PassesFrame {Kept : Type 0} (limit : ℤ) (received : List ℕ) (size : ℕ) (old new : Held Kept) : Type 0 where
  pub frame : Frame
  pub rest : List ℕ
  pub whole : received ≡ frame_bytes frame ++ rest
  pub fits : IsFrame frame
  pub within : pos (length frame.payload + 4) ≤ℤ limit
  pub size_is : size ≡ length (frame_bytes frame)
  pub passed : new ≡ old ⊕ frame_bytes frame

-- a header came, and its frame didn't come whole
pub record Lacking (limit : ℤ) (received : List ℕ) : Type 0 where
  pub header : HeaderPart
  pub begins : IsHeader received header
  pub least : pos 4 ≤ℤ header.len
  pub within : header.len ≤ℤ limit
  pub missing : pos (length received) ≤ℤ header.len

-- an allocation failed that the frame at the front needs, whose length is at most the limit
pub record LacksFrame {Kept : Type 0} (limit : ℤ) (received : List ℕ) (lacks : Held Kept → ℕ → Type 0) (old : Held Kept) : Type 0 where
  pub header : HeaderPart
  pub begins : IsHeader received header
  pub least : pos 4 ≤ℤ header.len
  pub within : header.len ≤ℤ limit
  pub len : ℕ
  pub len_is : header.len ≡ pos len
  pub whole : len + 1 ≤ length received
  pub refused : lacks old (len + 1)

-- the bytes begin with a header, whose length is such
abbrev pub Announces : List ℕ → (ℤ → Type 0) → Type 0
Announces received Is = (header : HeaderPart) × IsHeader received header × Is header.len

-- What a call comes to: a frame is passed on; or more has to come; or the header is refused, whatever follows it; or
-- memory is.
abbrev pub Passes : {Kept : Type 0} → ℤ → List ℕ → (Held Kept → ℕ → Type 0) → Held Kept → Held Kept → Result (Option ℕ) FilterError → Type 0
Passes limit received lacks old new (Ok (Some size)) = PassesFrame limit received size old new
Passes limit received lacks old new (Ok None) = (new ≡ old) × ((length received < 5) ⊎ Lacking limit received)
Passes limit received lacks old new (Err PastLimit) = (new ≡ old) × Announces received (λ len. limit <ℤ len)
Passes limit received lacks old new (Err InvalidLength) = (new ≡ old) × Announces received (λ len. len <ℤ pos 4)
Passes limit received lacks old new (Err OutOfMemory) = (new ≡ old) × LacksFrame limit received lacks old
