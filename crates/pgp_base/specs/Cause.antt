-- Why a part of a message has no spelling, and what the call of a writer comes to.
use Rattle.std.specs.Prelude.{◌≡◌, ◌⊎◌, ℕ, ◌+◌, ◌≤◌, List, [], ◌∷◌, length, map, take, Option, Some, None, Result, Ok, Err, nat_le, ◌==◌, if◌then◌else◌}
use Rattle.std.specs.List.{list_any}
use Rattle.pgp_base.specs.Held.{Held, ◌⊕◌, IsFrontOf, Leaves}
use Rattle.pgp_base.specs.declared.error.Error.{Error}
use Rattle.pgp_base.specs.declared.error.Error.TheVariants.{EmbeddedNull, TooLarge}
pub use Rattle.pgp_base.specs.Memory.{WantsMemory}

-- the error of what has no spelling; none where it has one
abbrev pub Cause : Type 0
Cause = Option Error

-- the first of two causes, from the left
abbrev pub either : Cause → Cause → Cause
either (Some e) d = Some e
either None d = d

-- the first of these causes, from the left
abbrev pub first : List Cause → Cause
first [] = None
first (c ∷ cs) = either c (first cs)

-- a text has no 0 byte
abbrev pub text_cause : List ℕ → Cause
text_cause z = if list_any (λ byte. byte == 0) z then Some EmbeddedNull else None

-- a length is a signed 32-bit number
abbrev pub length_cause : ℕ → Cause
length_cause n = if nat_le n 2147483647 then None else Some TooLarge

-- a count is an unsigned 16-bit number
abbrev pub count_cause : ℕ → Cause
count_cause n = if nat_le n 65535 then None else Some TooLarge

-- the bytes of a value have a length; a null has none
abbrev pub nullable_cause : Option (List ℕ) → Cause
nullable_cause None = None
nullable_cause (Some bytes) = length_cause (length bytes)

-- a count past its field stands after the last item that it can count
abbrev pub counted_cause : {A : Type 0} → (A → Cause) → List A → Cause
counted_cause of xs = either (first (map of (take 65535 xs))) (count_cause (length xs))

-- `needed` bytes after those of `old` met a refused growth: one by `more`, while the buffer held `here`, which is `old`
-- and more after it, and both together take no more than they do. `lacks` is what a buffer's error says.
pub record Wants {Kept : Type 0} (lacks : Held Kept → ℕ → Type 0) (old : Held Kept) (needed : ℕ) : Type 0 where
  pub here : Held Kept
  pub more : ℕ
  pub front : IsFrontOf old here
  pub within : length here.bytes + more ≤ length old.bytes + needed
  pub refused : lacks here more

-- A writer of what is spelled so and has this cause: it appends the spelling, and there is no cause;
-- or it leaves the bytes, and is refused for want of the memory that the spelling needs, or for the cause.
abbrev pub Writes : {Kept : Type 0} → List ℕ → Cause → (Held Kept → ℕ → Type 0) → Held Kept → Held Kept → Result (Unit {0}) Error → Type 0
Writes spelling cause lacks old new (Ok done) = (cause ≡ None) × (new ≡ old ⊕ spelling)
Writes spelling cause lacks old new (Err e) = (WantsMemory (Wants lacks old (length spelling)) e ⊎ (cause ≡ Some e)) × Leaves old new
