-- Private: reading a part of a value from the left, as a function. what it returns is what the part's grammar says.
use Rattle.std.specs.Prelude.{ℕ, ℤ, pos, negsuc, Bool, true, not, nat_eq, List, length, take, drop, Option, Some, None, Result, Ok, Err, nat_lt, if◌then◌else◌}
use Rattle.pgp_base.specs.declared.error.Error.{Error}
use Rattle.pgp_base.specs.declared.error.Error.TheVariants.{NotUtf8, InvalidKeyLength, InvalidValueLength}
use Rattle.std.specs.Int.{w64, from_be_bytes}
use Rattle.std.specs.Str.{is_utf8}
use Rattle.pgp_base.specs.PartReading.{◌>>=◌, byte_at, int32_at, front_at}
use Rattle.pgp_types.specs.Geometry.{Point}

-- what reads a part: the part and the bytes after it, or an error
abbrev pub Reader : Type 0 → Type 0
Reader V = List ℕ → Result (V × List ℕ) Error

abbrev pub and_then : {U W : Type 0} → Result (U × List ℕ) Error → (U → List ℕ → Result W Error) → Result W Error
and_then (Ok x) f = f x.0 x.1
and_then (Err e) f = Err e

abbrev pub fixed_at : {V : Type 0} → (List ℕ → V) → ℕ → Reader V
fixed_at value size bytes = front_at size value bytes >>= λ x. Ok x

abbrev pub natural_of : Error → ℤ → List ℕ → Result (ℕ × List ℕ) Error
natural_of negative (pos n) rest = Ok (n, rest)
natural_of negative (negsuc k) rest = Err negative

unfoldable pub natural_at : Error → Reader ℕ
natural_at negative bytes = int32_at bytes >>= λ x. natural_of negative x.0 x.1

-- so many bytes
abbrev pub split_at : Error → ℕ → Reader (List ℕ)
split_at short n bytes = if nat_lt (length bytes) n then Err short else Ok (take n bytes, drop n bytes)

unfoldable pub sized_at : Error → Reader (List ℕ)
sized_at wrong bytes = and_then (natural_at wrong bytes) (split_at wrong)

abbrev pub nullable_of : Error → ℤ → List ℕ → Result (Option (List ℕ) × List ℕ) Error
nullable_of past_end (pos n) rest = if nat_lt (length rest) n then Err past_end else Ok (Some (take n rest), drop n rest)
nullable_of past_end (negsuc k) rest = Ok (None, rest)

unfoldable pub nullable_at : Error → Reader (Option (List ℕ))
nullable_at past_end bytes = int32_at bytes >>= λ x. nullable_of past_end x.0 x.1

-- a part which has to pass a test
abbrev pub tested : {V : Type 0} → (V → Bool) → Error → V → List ℕ → Result (V × List ℕ) Error
tested is other x rest = if is x then Ok (x, rest) else Err other

abbrev pub only_at : {V : Type 0} → (V → Bool) → Error → Reader V → Reader V
only_at is other read bytes = and_then (read bytes) (tested is other)

-- two parts, one after the other
abbrev pub paired : {U V : Type 0} → U → V → List ℕ → Result ((U × V) × List ℕ) Error
paired x y rest = Ok ((x, y), rest)

abbrev pub then_at : {U V : Type 0} → Reader U → Reader V → Reader (U × V)
then_at p q bytes = and_then (p bytes) (λ x rest. and_then (q rest) (paired x))

-- a byte that is a bool
abbrev pub is_set : ℕ → Bool
is_set n = not (nat_eq n 0)

abbrev pub flag_at : Reader Bool
flag_at bytes = byte_at bytes >>= λ x. Ok (is_set x.0, x.1)

-- the coordinates of a point
abbrev pub point_value : List ℕ → Point
point_value bytes = record { x = from_be_bytes w64 (take 8 bytes); y = from_be_bytes w64 (drop 8 bytes) }

unfoldable pub point_at : Reader Point
point_at = fixed_at point_value 16

-- the entries of an hstore
abbrev pub is_text_or_null : Option (List ℕ) → Bool
is_text_or_null None = true
is_text_or_null (Some text) = is_utf8 text

unfoldable pub key_at : Reader (List ℕ)
key_at = only_at is_utf8 NotUtf8 (sized_at InvalidKeyLength)

unfoldable pub entry_value_at : Reader (Option (List ℕ))
entry_value_at = only_at is_text_or_null NotUtf8 (nullable_at InvalidValueLength)

unfoldable pub entry_at : Reader (List ℕ × Option (List ℕ))
entry_at = then_at key_at entry_value_at
