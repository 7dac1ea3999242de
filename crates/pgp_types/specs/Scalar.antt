-- Truth values, bytes and numbers.
-- PostgreSQL manual, "Data Types": "Boolean Type", "Binary Data Types", "Character Types", "Numeric Types",
-- "Object Identifier Types", "pg_lsn Type".
use Rattle.std.specs.Prelude.{◌≡◌, ◌≢◌, ℕ, ℤ, ◌<◌, ◌^◌, Bool, true, false, List, [], ◌∷◌, length, Result, Ok, Err, FitsSigned, ⊤}
use Rattle.std.specs.Int.{w8, w16, w32, w64, cast_unsigned}
use Rattle.pgp_base.specs.declared.error.Error.{Error}
use Rattle.pgp_base.specs.declared.error.Error.TheVariants.{InvalidSize}
use Rattle.pgp_base.specs.Wire.{int16, int32, int64, uint32, uint64, oid as oid_bytes}
use Rattle.pgp_types.specs.Format.{Plain, plain, fixed, all_bytes}

-- One byte: 0 or 1 is written, and any but 0 is read as true.
abbrev pub bool_bytes : Bool → List ℕ
bool_bytes false = 0 ∷ []
bool_bytes true = 1 ∷ []

abbrev pub BoolReads : List ℕ → Result Bool Error → Type 0
BoolReads bytes (Ok false) = bytes ≡ 0 ∷ []
BoolReads bytes (Ok true) = (n : ℕ) × (n ≢ 0) × (bytes ≡ n ∷ [])
BoolReads bytes (Err InvalidSize) = length bytes ≢ 1
BoolReads bytes (Err e) = ⊥

abbrev pub bool : Plain Bool
bool = plain (λ _. ⊤) bool_bytes BoolReads

abbrev pub bytea : Plain (List ℕ)
bytea = all_bytes

-- Numbers with a sign; "char" is one byte.
abbrev pub char_byte : ℤ → List ℕ
char_byte z = cast_unsigned w8 z ∷ []

abbrev pub char : Plain ℤ
char = fixed (FitsSigned w8) char_byte 1

abbrev pub int2 : Plain ℤ
int2 = fixed (FitsSigned w16) int16 2

abbrev pub int4 : Plain ℤ
int4 = fixed (FitsSigned w32) int32 4

abbrev pub int8 : Plain ℤ
int8 = fixed (FitsSigned w64) int64 8

-- Numbers without a sign; of a floating-point number they are its bits (IEEE 754).
abbrev pub oid : Plain ℕ
oid = fixed (λ n. n < 2 ^ 32) oid_bytes 4

abbrev pub lsn : Plain ℕ
lsn = fixed (λ n. n < 2 ^ 64) uint64 8

abbrev pub float4 : Plain ℕ
float4 = fixed (λ n. n < 2 ^ 32) uint32 4

abbrev pub float8 : Plain ℕ
float8 = fixed (λ n. n < 2 ^ 64) uint64 8
