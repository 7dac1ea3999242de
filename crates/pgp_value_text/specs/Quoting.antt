-- How an element stands in the text of an array, and a bound in that of a range.
-- PostgreSQL manual, "Arrays", "Array Input and Output Syntax", and "Range Types", "Input/Output of Ranges"; in the server's source `range_bound_escape`.
use Rattle.std.specs.Prelude.{ℕ, ◌==◌, ◌&&◌, ◌||◌, not, if◌then◌else◌, nat_le, nat_eq, length, Bool, List, [], ◌∷◌, ◌++◌, codes}
use Rattle.std.specs.List.{flat_map, list_any}
use Rattle.std.specs.Str.{str_eq_ignore_ascii_case}

-- round and square brackets in a range, braces in an array
abbrev pub is_bracket : Bool → ℕ → Bool
is_bracket in_range byte = if in_range then byte == 40 || byte == 41 || byte == 91 || byte == 93 else byte == 123 || byte == 125

-- a comma, a quote, a backslash, a bracket and white space
abbrev pub is_special : Bool → ℕ → Bool
is_special in_range byte = byte == 44 || byte == 34 || byte == 92 || is_bracket in_range byte || byte == 32 || (nat_le 9 byte && nat_le byte 13)

-- so does an empty one, and an element that would be read as a null
abbrev pub wants_quotes : Bool → List ℕ → Bool
wants_quotes in_range text = nat_eq (length text) 0 || list_any (is_special in_range) text || (not in_range && str_eq_ignore_ascii_case text (codes "NULL"))

-- a quote and a backslash: twice in a range, with a backslash before it in an array
abbrev pub escaped_byte : Bool → ℕ → List ℕ
escaped_byte in_range byte = if byte == 34 || byte == 92 then (if in_range then byte else 92) ∷ byte ∷ [] else byte ∷ []

abbrev pub quoted : Bool → List ℕ → List ℕ
quoted in_range text = if wants_quotes in_range text then 34 ∷ flat_map (escaped_byte in_range) text ++ 34 ∷ [] else text
