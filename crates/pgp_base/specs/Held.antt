-- What a buffer holds.
use Rattle.std.specs.Prelude.{◌≡◌, ◌⊎◌, ℕ, ◌+◌, List, [], ◌++◌, length, take, drop}

-- its bytes; what stands after them, where that is memory of the caller's; and what no call changes, as
-- whose memory it is
pub record Held (Kept : Type 0) : Type 0 where
  pub bytes : List ℕ
  pub behind : List ℕ
  pub kept : Kept

-- what a buffer with memory of its own holds
abbrev pub items_held : List ℕ → Held (Unit {0})
items_held items = record { bytes = items; behind = []; kept = tt }

-- with these bytes appended, over what stood after
unfoldable pub lengthened : {Kept : Type 0} → Held Kept → List ℕ → Held Kept
lengthened h z = record { bytes = h.bytes ++ z; behind = drop (length z) h.behind; kept = h.kept }

infixl 65 ◌⊕◌
abbrev pub ◌⊕◌ : {Kept : Type 0} → Held Kept → List ℕ → Held Kept
h ⊕ z = lengthened h z

-- with z over the bytes at `place`
unfoldable pub overwritten : {Kept : Type 0} → Held Kept → ℕ → List ℕ → Held Kept
overwritten h place z = record { bytes = take place h.bytes ++ z ++ drop (place + length z) h.bytes; behind = h.behind; kept = h.kept }

-- with z put at `place`, and what stood there after it
unfoldable pub inserted : {Kept : Type 0} → Held Kept → ℕ → List ℕ → Held Kept
inserted h place z = record { bytes = take place h.bytes ++ z ++ drop place h.bytes; behind = drop (length z) h.behind; kept = h.kept }

-- what stands after the bytes that are cut at len: what stood there; in memory of the caller's after the bytes that were cut off
abbrev pub StaysBehind : {Kept : Type 0} → ℕ → Held Kept → Held Kept → Type 0
StaysBehind len old new = (new.behind ≡ drop len old.bytes ++ old.behind) ⊎ ((old.behind ≡ []) × (new.behind ≡ []))

-- b holds the bytes of a, and more after them
pub record IsFrontOf {Kept : Type 0} (a b : Held Kept) : Type 0 where
  pub more : List ℕ
  pub bytes : b.bytes ≡ a.bytes ++ more
  pub kept : b.kept ≡ a.kept

-- the bytes are the same; what stands after them may not be
pub record Leaves {Kept : Type 0} (old new : Held Kept) : Type 0 where
  pub bytes : new.bytes ≡ old.bytes
  pub kept : new.kept ≡ old.kept
