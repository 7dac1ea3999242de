-- Private: reading an item from the left, as the code does it. what it returns is what the item's grammar says.
use Rattle.std.specs.Prelude.{◌≡◌, ℕ, ℤ, pos, negsuc, ◌+◌, ◌<◌, List, [], ◌∷◌, length, drop, Option, Some, None, Result, Ok, Err, nat_lt, if◌then◌else◌}
use Rattle.std.specs.declared.ops.Range.{Range}
use Rattle.pgp_base.specs.declared.error.Error.{Error}
use Rattle.pgp_base.specs.declared.error.Error.TheVariants.{UnexpectedEof}
use Rattle.pgp_base.specs.PartReading.{◌>>=◌, uint16_at, oid_at, int16_at, int32_at, string_at, text_at}
use Rattle.pgp_message.specs.Items.{FieldPart, ErrorPart}
pub use Rattle.pgp_base.specs.PartReading.{type_at}

abbrev pub format_at : List ℕ → Result (ℕ × List ℕ) Error
format_at bytes = uint16_at bytes >>= λ x. Ok x

abbrev pub range_after : ℕ → ℤ → List ℕ → Result (Option (Range ℕ) × List ℕ) Error
range_after place (negsuc k) rest = Ok (None, rest)
range_after place (pos n) rest = if nat_lt (length rest) n then Err UnexpectedEof else Ok (Some (record { start = place + 4; end = place + 4 + n }), drop n rest)

unfoldable pub range_at : ℕ → List ℕ → Result (Option (Range ℕ) × List ℕ) Error
range_at place bytes = int32_at bytes >>= λ len. range_after place len.0 len.1

-- what is read takes a byte at least
abbrev pub TakesBytes : (List ℕ → Result (List ℕ × List ℕ) Error) → Type 0
TakesBytes read = (bytes x after : List ℕ) → read bytes ≡ Ok (x, after) → length after < length bytes

-- the numbers after a name
unfoldable pub numbers_at : List ℕ → List ℕ → Result (FieldPart × List ℕ) Error
numbers_at name rest = do
  table_oid ← oid_at rest
  column_id ← int16_at table_oid.1
  type_oid ← oid_at column_id.1
  type_size ← int16_at type_oid.1
  type_modifier ← int32_at type_size.1
  format ← int16_at type_modifier.1
  Ok (record { name = name; table_oid = table_oid.0; column_id = column_id.0; type_oid = type_oid.0; type_size = type_size.0; type_modifier = type_modifier.0; format = format.0 }, format.1)

abbrev pub whole_string : List ℕ × List ℕ → Result (List ℕ × List ℕ) Error
whole_string s = Ok s

abbrev pub raw_string_at : List ℕ → Result (List ℕ × List ℕ) Error
raw_string_at bytes = string_at bytes >>= whole_string

abbrev pub numbers_after : Result (List ℕ × List ℕ) Error → Result (FieldPart × List ℕ) Error
numbers_after (Ok s) = numbers_at s.0 s.1
numbers_after (Err e) = Err e

unfoldable pub column_at : (List ℕ → Result (List ℕ × List ℕ) Error) → List ℕ → Result (FieldPart × List ℕ) Error
column_at name_at bytes = numbers_after (name_at bytes)

abbrev pub field_at : List ℕ → Result (FieldPart × List ℕ) Error
field_at = column_at text_at

abbrev pub raw_field_at : List ℕ → Result (FieldPart × List ℕ) Error
raw_field_at = column_at raw_string_at

unfoldable pub error_field_at : List ℕ → Result (ErrorPart × List ℕ) Error
error_field_at [] = Err UnexpectedEof
error_field_at (code ∷ rest) = string_at rest >>= λ s. Ok (record { code = code; value = s.0 }, s.1)
