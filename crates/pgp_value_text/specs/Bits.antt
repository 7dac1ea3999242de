-- The texts of bit strings and of places of rows.
-- PostgreSQL manual, "Bit String Types", "Object Identifier Types"; in the server's source `bit_out` and `tidout`.
use Rattle.std.specs.Prelude.{ℕ, ◌+◌, ◌/◌, ◌%◌, List, [], ◌∷◌, ◌++◌, take, codes, decimal}
use Rattle.std.specs.List.{flat_map}
use Rattle.pgp_types.specs.Varbit.{Varbit}
use Rattle.pgp_values.specs.declared.system.Tid.{Tid}

-- the bits of a byte, the highest first
abbrev pub byte_bits : ℕ → List ℕ
byte_bits n = (48 + n / 128) ∷ (48 + n / 64 % 2) ∷ (48 + n / 32 % 2) ∷ (48 + n / 16 % 2) ∷ (48 + n / 8 % 2) ∷ (48 + n / 4 % 2) ∷ (48 + n / 2 % 2) ∷ (48 + n % 2) ∷ []

-- without those that pad the last byte
abbrev pub bits_text : Varbit → List ℕ
bits_text v = take v.len (flat_map byte_bits v.bytes)

abbrev pub tid_text : Tid → List ℕ
tid_text v = codes "(" ++ decimal v.block ++ codes "," ++ decimal v.offset ++ codes ")"
