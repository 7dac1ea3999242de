-- How numbers, parts and messages stand on the wire.
-- PostgreSQL manual, "Message Data Types" and "Message Formats".
use Rattle.std.specs.Prelude.{◌≢◌, ℕ, ℤ, negsuc, ◌+◌, ◌<◌, List, [], ◌∷◌, ◌++◌, length, slice_index, Option, Some, None}
use Rattle.std.specs.List.{flat_map, AllByRecursion}
use Rattle.std.specs.Int.{w16, w32, w64, to_be_bytes, cast_unsigned}

-- Numbers: big-endian, in two's complement where they have a sign.

unfoldable pub int16 : ℤ → List ℕ
int16 z = to_be_bytes w16 (cast_unsigned w16 z)

unfoldable pub int32 : ℤ → List ℕ
int32 z = to_be_bytes w32 (cast_unsigned w32 z)

unfoldable pub int64 : ℤ → List ℕ
int64 z = to_be_bytes w64 (cast_unsigned w64 z)

unfoldable pub uint16 : ℕ → List ℕ
uint16 n = to_be_bytes w16 n

unfoldable pub uint32 : ℕ → List ℕ
uint32 n = to_be_bytes w32 n

unfoldable pub uint64 : ℕ → List ℕ
uint64 n = to_be_bytes w64 n

-- an object's identifier
abbrev pub oid : ℕ → List ℕ
oid n = uint32 n

-- Parts of messages.

-- a text, which has no 0 byte, and a 0 byte after it
abbrev pub text : List ℕ → List ℕ
text z = z ++ 0 ∷ []

-- it has a spelling as a text
abbrev pub HasNoZero : List ℕ → Type 0
HasNoZero z = AllByRecursion (λ b. b ≢ 0) z

-- how many items there are, and each as it is spelled
abbrev pub counted : {A : Type 0} → (A → List ℕ) → List A → List ℕ
counted spelling xs = uint16 (length xs) ++ flat_map spelling xs

-- -1 for a null, else the length of the bytes, and the bytes
abbrev pub nullable : Option (List ℕ) → List ℕ
nullable None = int32 (negsuc 0)
nullable (Some bytes) = uint32 (length bytes) ++ bytes

-- A message: its tag, the length of what follows the tag, and the payload.
abbrev pub frame : ℕ → List ℕ → List ℕ
frame tag payload = tag ∷ uint32 (length payload + 4) ++ payload

-- each is a byte
abbrev pub IsBytes : List ℕ → Type 0
IsBytes bytes = (i : ℕ) → slice_index bytes i < 256
