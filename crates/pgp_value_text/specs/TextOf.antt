-- The text of a value whose bytes in binary format are given, by the number (OID) of its type.
use Rattle.std.specs.Prelude.{◌≡◌, ℕ, nat_eq, ◌||◌, Bool, false, List}
use Rattle.pgp_types.specs.Array.{array}
use Rattle.pgp_values.specs.declared.formats.BinaryFormat.{BinaryFormat}
use Rattle.pgp_values.specs.declared.formats.BinaryFormat.TheVariants.{Array}
use Rattle.pgp_value_text.specs.ArrayText.{ShowsArray}
use Rattle.pgp_value_text.specs.RangeText.{IsElementBy}
use Rattle.pgp_value_text.specs.ValueText.{OfType, Shows}

-- `int2vector` and `oidvector` are sent as arrays, and shown without braces
abbrev pub is_apart : ℕ → Bool
is_apart type_oid = nat_eq type_oid 22 || nat_eq type_oid 30

abbrev pub IsTextBy : BinaryFormat → ℕ → List ℕ → List ℕ → Type 0
IsTextBy Array type_oid = λ bytes text. (is_apart type_oid ≡ false) × Shows array ShowsArray bytes text
IsTextBy f type_oid = IsElementBy f type_oid

abbrev pub IsTextOf : ℕ → List ℕ → List ℕ → Type 0
IsTextOf = OfType IsTextBy
