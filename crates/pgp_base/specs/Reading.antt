-- When what was written can be read back.
use Rattle.std.specs.Prelude.{◌≡◌, ◌≢◌, ◌⊎◌, ℕ, List, ◌++◌, Option, Some, None, Result, Ok, Err}
use Rattle.std.specs.Str.{IsUtf8}
use Rattle.pgp_base.specs.declared.error.Error.{Error}
use Rattle.pgp_base.specs.declared.error.Error.TheVariants.{UnexpectedEof, NotUtf8}
use Rattle.pgp_base.specs.Cause.{text_cause}
use Rattle.pgp_base.specs.Wire.{IsBytes, HasNoZero, text}

-- No spelling of what meets `Has` begins another: whatever follows, one value is read.
abbrev pub BeginsNoOther : {A : Type 0} → (A → Type 0) → (A → List ℕ) → Type 0
BeginsNoOther {A} Has spelling = (x y : A) (more rest : List ℕ) → Has x → Has y → spelling x ++ more ≡ spelling y ++ rest → (x ≡ y) × (more ≡ rest)

-- A reader of a part gives what is spelled at the front of the bytes, and what is left after that spelling;
-- and nothing exactly where no spelling stands there.
pub record ReadsSpelling {A : Type 0} (Has : A → Type 0) (spelling : A → List ℕ) (read : List ℕ → Option (A × List ℕ)) : Type 0 where
  pub found : (bytes : List ℕ) (x : A) (rest : List ℕ) → IsBytes bytes → read bytes ≡ Some (x, rest) → Has x × (bytes ≡ spelling x ++ rest)
  pub again : (x : A) (rest : List ℕ) → Has x → read (spelling x ++ rest) ≡ Some (x, rest)
  pub none : (bytes : List ℕ) (x : A) (rest : List ℕ) → read bytes ≡ None → Has x → bytes ≢ spelling x ++ rest

-- a text stands at the front of the bytes
pub record TextStands (bytes z rest : List ℕ) : Type 0 where
  pub has : text_cause z ≡ None
  pub whole : bytes ≡ text z ++ rest

-- A reader of UTF-8 texts gives a text that is UTF-8, rejects one that isn't, and finds the bytes cut short
-- exactly where they hold no 0.
pub record ReadsTexts (read : List ℕ → Result (List ℕ × List ℕ) Error) : Type 0 where
  pub found : (bytes z rest : List ℕ) → read bytes ≡ Ok (z, rest) → TextStands bytes z rest × IsUtf8 z
  pub again : (bytes z rest : List ℕ) → TextStands bytes z rest → IsUtf8 z → read bytes ≡ Ok (z, rest)
  pub refused : (bytes : List ℕ) (e : Error) → read bytes ≡ Err e
      → ((e ≡ UnexpectedEof) × HasNoZero bytes) ⊎ ((e ≡ NotUtf8) × ((z rest : List ℕ) × TextStands bytes z rest × (IsUtf8 z → ⊥)))
