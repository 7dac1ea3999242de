-- What it means to write a value of a type, and to read one.
use Rattle.std.specs.Prelude.{◌≡◌, ◌≢◌, ℕ, ◌<◌, List, length, None, Result, Ok, Err, ⊤}
use Rattle.pgp_base.specs.declared.error.Error.{Error}
use Rattle.pgp_base.specs.declared.error.Error.TheVariants.{UnexpectedEof, NotDrained, InvalidSize}
use Rattle.pgp_base.specs.Cause.{Cause, Writes as WritesSpelling}
use Rattle.pgp_base.specs.Held.{Held}
use Rattle.pgp_base.specs.Wire.{IsBytes}

-- A type of values. What is read is an R, which for a value whose lists are read as they are asked for has walks
-- in the place of the lists.
pub record Format (V R : Type 0) : Type 1 where
  -- the values that are read back as they were written
  pub IsValue : V → Type 0
  -- the bytes that are written for a value, and why it has none
  pub written : V → List ℕ
  pub cause : V → Cause
  -- what a value is when it is read back
  pub seen : V → R
  -- what bytes are read as
  pub Reads : List ℕ → Result R Error → Type 0

-- Where every value has a spelling, and is read back as itself.
abbrev pub Plain : Type 0 → Type 1
Plain V = Format V V

abbrev pub plain : {V : Type 0} → (V → Type 0) → (V → List ℕ) → (List ℕ → Result V Error → Type 0) → Plain V
plain IsValue written Reads = record { IsValue = IsValue; written = written; cause = λ _. None; seen = λ v. v; Reads = Reads }

-- What a writer leaves: the bytes of the value after the old ones; or the old ones, where the memory that these bytes need, or
-- the value, was refused.
abbrev pub Writes : {V R K : Type 0} → Format V R → V → (Held K → ℕ → Type 0) → Held K → Result (Unit {0}) Error → Held K → Type 0
Writes f v lacks old result new = WritesSpelling (f.written v) (f.cause v) lacks old new result

-- What a reader returns for the bytes.
abbrev pub Reads : {V R : Type 0} → Format V R → List ℕ → Result R Error → Type 0
Reads f bytes result = f.Reads bytes result

-- The same where the value is seen through a view.
abbrev pub ReadsBy : {X V R : Type 0} → (X → R) → Format V R → List ℕ → Result X Error → Type 0
ReadsBy view f bytes (Ok x) = f.Reads bytes (Ok (view x))
ReadsBy view f bytes (Err e) = f.Reads bytes (Err e)

-- Each list of bytes has one reading, and what is written for a value is read as that value.
pub record IsSound {V R : Type 0} (f : Format V R) : Type 0 where
  pub some : (bytes : List ℕ) → IsBytes bytes → (r : Result R Error) × f.Reads bytes r
  pub one : (bytes : List ℕ) (r s : Result R Error) → f.Reads bytes r → f.Reads bytes s → r ≡ s
  pub back : (v : V) → f.IsValue v → f.cause v ≡ None → f.Reads (f.written v) (Ok (f.seen v))

-- Values that all take the same number of bytes: read from what is written for one, and rejected
-- where bytes are missing, or are left over.
abbrev pub FixedRefused : ℕ → List ℕ → Error → Type 0
FixedRefused size bytes UnexpectedEof = length bytes < size
FixedRefused size bytes NotDrained = size < length bytes
FixedRefused size bytes e = ⊥

abbrev pub FixedReads : {V : Type 0} → (V → Type 0) → (V → List ℕ) → ℕ → List ℕ → Result V Error → Type 0
FixedReads IsValue written size bytes (Ok v) = IsValue v × (bytes ≡ written v)
FixedReads IsValue written size bytes (Err e) = FixedRefused size bytes e

abbrev pub fixed : {V : Type 0} → (V → Type 0) → (V → List ℕ) → ℕ → Plain V
fixed IsValue written size = plain IsValue written (FixedReads IsValue written size)

-- so many bytes, as they stand
abbrev pub IsBlock : ℕ → List ℕ → Type 0
IsBlock size bytes = IsBytes bytes × (length bytes ≡ size)

abbrev pub block : ℕ → Plain (List ℕ)
block size = fixed (IsBlock size) (λ bytes. bytes) size

-- So many bytes, as they stand; any other number of bytes is rejected.
abbrev pub WholeReads : ℕ → List ℕ → Result (List ℕ) Error → Type 0
WholeReads size bytes (Ok v) = IsBlock size v × (bytes ≡ v)
WholeReads size bytes (Err InvalidSize) = length bytes ≢ size
WholeReads size bytes (Err e) = ⊥

abbrev pub whole : ℕ → Plain (List ℕ)
whole size = plain (IsBlock size) (λ bytes. bytes) (WholeReads size)

-- All bytes, as they stand.
abbrev pub AllRead : List ℕ → Result (List ℕ) Error → Type 0
AllRead bytes (Ok v) = bytes ≡ v
AllRead bytes (Err e) = ⊥

abbrev pub all_bytes : Plain (List ℕ)
all_bytes = plain (λ _. ⊤) (λ bytes. bytes) AllRead
