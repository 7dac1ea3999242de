-- The parts of the items of lists.
-- PostgreSQL manual, "Message Formats", the repeated parts.
use Rattle.std.specs.Prelude.{ℕ, negsuc, pos, List, [], ◌∷◌, ◌++◌, length, Option, Some, None}
use Rattle.std.specs.List.{flat_map}
use Rattle.pgp_base.specs.Wire.{int16, int32, uint16, oid}
use Rattle.pgp_frontend.specs.Payload.{Part, Byte, Int32, Text, Nullable, Rest}
use Rattle.pgp_message.specs.Items.{FieldPart, ErrorPart}
pub use Rattle.pgp_base.specs.Lent.{shown}

-- the parts before a list, those of its items, and those after it
abbrev pub with_list : List Part → List Part → List Part → List Part
with_list head items tail = head ++ (items ++ tail)

-- A list of such items: after a count of two bytes; after one of four with a sign; with a 0 byte after it.
abbrev pub counted_list : {A : Type 0} → (A → List Part) → List A → List Part
counted_list item xs = Rest (uint16 (length xs)) ∷ flat_map item xs

abbrev pub wide_list : {A : Type 0} → (A → List Part) → List A → List Part
wide_list item xs = Rest (int32 (pos (length xs))) ∷ flat_map item xs

abbrev pub marked_list : {A : Type 0} → (A → List Part) → List A → List Part
marked_list item xs = flat_map item xs ++ Byte 0 ∷ []

-- a value of a row: -1 for a null
abbrev pub value_parts : Option (List ℕ) → List Part
value_parts None = Int32 (negsuc 0) ∷ []
value_parts (Some bytes) = Nullable (Some bytes) ∷ []

abbrev pub text_parts : List ℕ → List Part
text_parts z = Text z ∷ []

-- the format of a column
abbrev pub format_parts : ℕ → List Part
format_parts n = Rest (uint16 n) ∷ []

-- the type of a parameter
abbrev pub type_parts : ℕ → List Part
type_parts n = Rest (oid n) ∷ []

-- A field of an error or a notice: a text that begins with its code. So neither has a 0 byte.
abbrev pub field_parts : ErrorPart → List Part
field_parts x = Text (x.code ∷ x.value) ∷ []

-- a column of rows
abbrev pub column_parts : FieldPart → List Part
column_parts x = Text x.name ∷ Rest (oid x.table_oid) ∷ Rest (int16 x.column_id) ∷ Rest (oid x.type_oid) ∷ Rest (int16 x.type_size) ∷ Int32 x.type_modifier ∷ Rest (int16 x.format) ∷ []
