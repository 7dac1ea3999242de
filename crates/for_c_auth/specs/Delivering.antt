-- What is handed over in memory of the caller's.
use Rattle.std.specs.Prelude.{◌≡◌, ◌⊎◌, ℕ, ◌<◌, ◌≤◌, List, ◌++◌, length, drop}

-- The text fits into the memory, stands at its front, and its length is reported; after it the memory is as it
-- was.
pub record Delivered (text old new : List ℕ) (reported : ℕ) : Type 0 where
  pub length_is : reported ≡ length text
  pub fits : length text ≤ length old
  pub stands : new ≡ text ++ drop (length text) old

-- a text of this kind is handed over
pub record Delivers (Is : List ℕ → Type 0) (old new : List ℕ) (reported : ℕ) : Type 0 where
  pub text : List ℕ
  pub is : Is text
  pub delivered : Delivered text old new reported

-- nothing is handed over: the memory is as it was
abbrev pub NotDelivered : List ℕ → List ℕ → ℕ → Type 0
NotDelivered old new reported = (reported ≡ 0) × (new ≡ old)

-- the text of this kind is longer than the memory
pub record IsLonger (Is : List ℕ → Type 0) (old : List ℕ) : Type 0 where
  pub text : List ℕ
  pub is : Is text
  pub longer : length old < length text

-- Why 1 is answered: an allocation failed, or the text is longer than the memory.
abbrev pub LacksRoom : Type 0 → (List ℕ → Type 0) → List ℕ → Type 0
LacksRoom lacks Is old = lacks ⊎ IsLonger Is old
