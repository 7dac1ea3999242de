-- A line: its parts, one after another.
use Rattle.std.specs.Prelude.{ℕ, ◌-◌, ◌/◌, ◌%◌, ◌^◌, ℤ, Bool, true, false, ◌==◌, ◌||◌, if◌then◌else◌, List, [], ◌∷◌, ◌++◌, length, replicate, slice_get, Option, Some, None, codes, decimal}
use Rattle.std.specs.Fmt.{digits, signed_decimal}
use Rattle.std.specs.List.{flat_map}
use Rattle.pgtool_line.specs.Quoting.{digits as hex_digits, escaped_byte, json_hex, json_value, quoted, value, up_to}
use Rattle.pgtool_line.specs.Types.{type_of}
use Rattle.pgtool_line.specs.declared.style.Form.{Form}
use Rattle.pgtool_line.specs.declared.style.Form.TheVariants.{Columns, Json}
use Rattle.pgtool_line.specs.declared.style.Style.{Style}

abbrev pub blanks : ℕ → List ℕ
blanks n = replicate n 32

-- a number at the right of so many characters, where it isn't longer
abbrev pub right : ℕ → ℕ → List ℕ
right width n = blanks (width - length (decimal n)) ++ decimal n

-- a word of ours
abbrev pub spelt : List ℕ → List ℕ
spelt word = flat_map (escaped_byte Columns) word

-- in quotes, for JSON
abbrev pub string : List ℕ → List ℕ
string word = 34 ∷ (flat_map (escaped_byte Json) word ++ 34 ∷ [])

-- the name of a message: by itself, or at the left of 20 characters where more stands after it
abbrev pub named : Bool → List ℕ → List ℕ
named true name = spelt name
named false name = spelt name ++ blanks (20 - length name)

-- after the number of a type its name, where each server has it
abbrev pub type_name : Option (List ℕ) → List ℕ
type_name None = []
type_name (Some name) = 32 ∷ spelt name

abbrev pub json_name : Option (List ℕ) → List ℕ
json_name None = codes "}"
json_name (Some name) = codes ",\"name\":" ++ string name ++ codes "}"

-- a place in the write-ahead log, as a server prints it: its upper and its lower 32 bits, in hex
unfoldable pub lsn : ℕ → List ℕ
lsn n = digits 16 true (n / 2 ^ 32) ++ 47 ∷ digits 16 true (n % 2 ^ 32)

-- What a line can say. A JSON object says it by names, lists and objects, which a line of text goes without.
pub data Part : Type 0 where
  -- how long a frame is
  Length : (n : ℕ) → Part
  -- the tag of a frame
  Tag : (tag : ℕ) → Part
  -- the name of a message, after which nothing more stands, or more
  Name : (alone : Bool) (name : List ℕ) → Part
  -- the number of an error, whose name stands after it
  Refusal : (n : ℕ) → Part
  -- what stands after it: by a word in a line, and by a name in JSON
  Key : (word name : List ℕ) → Part
  -- the same of what has a name in JSON alone
  Member : (name : List ℕ) → Part
  -- a list of so many items begins; JSON doesn't say how many
  Count : (n : ℕ) → Part
  -- in JSON alone, a list and an object begin and end
  ListBegins : Part
  ListEnds : Part
  ObjectBegins : Part
  ObjectEnds : Part
  -- a word of ours
  Word : (word : List ℕ) → Part
  Number : (n : ℤ) → Part
  -- a place in the write-ahead log
  Lsn : (n : ℕ) → Part
  -- a type
  Oid : (oid : ℕ) → Part
  -- a text
  Text : (bytes : List ℕ) → Part
  -- a value of a row, none for a null
  Value : (bytes : Option (List ℕ)) → Part
  -- one in binary format that isn't read
  Binary : (bytes : List ℕ) → Part
  -- a secret of so many bytes
  Hidden : (n : ℕ) → Part

-- a part that has one word for both
abbrev pub key : List ℕ → Part
key word = Key word word

-- how a part is shown, where values and texts are cut past a limit
abbrev pub shown : ℕ → Part → List ℕ
shown limit (Length n) = right 8 n
shown limit (Tag tag) = escaped_byte Columns tag
shown limit (Name alone name) = named alone name
shown limit (Refusal n) = codes "fault " ++ decimal n
shown limit (Key word name) = spelt word
shown limit (Count n) = decimal n
shown limit (Word word) = spelt word
shown limit (Number n) = signed_decimal n
shown limit (Lsn n) = lsn n
shown limit (Oid oid) = decimal oid ++ type_name (type_of oid)
shown limit (Text bytes) = up_to limit (quoted Columns) bytes
shown limit (Value None) = codes "NULL"
shown limit (Value (Some bytes)) = value limit bytes
shown limit (Binary bytes) = up_to limit hex_digits bytes
shown limit (Hidden n) = codes "(" ++ decimal n ++ codes " bytes)"
shown limit part = []

-- and in JSON
abbrev pub json : ℕ → Part → List ℕ
json limit (Length n) = codes "\"length\":" ++ decimal n
json limit (Tag tag) = codes "\"tag\":" ++ string (tag ∷ [])
json limit (Name alone name) = codes "\"name\":" ++ string name
json limit (Refusal n) = codes "\"fault\":{\"number\":" ++ decimal n ++ codes ",\"name\":"
json limit (Key word name) = string name ++ codes ":"
json limit (Member name) = string name ++ codes ":"
json limit (Count n) = codes "["
json limit ListBegins = codes "["
json limit ListEnds = codes "]"
json limit ObjectBegins = codes "{"
json limit ObjectEnds = codes "}"
json limit (Word word) = string word
json limit (Number n) = signed_decimal n
json limit (Lsn n) = 34 ∷ (lsn n ++ 34 ∷ [])
json limit (Oid oid) = codes "{\"oid\":" ++ decimal oid ++ json_name (type_of oid)
json limit (Text bytes) = json_value limit bytes
json limit (Value None) = codes "null"
json limit (Value (Some bytes)) = json_value limit bytes
json limit (Binary bytes) = json_hex limit bytes
json limit (Hidden n) = codes "{\"bytes\":" ++ decimal n ++ codes "}"

-- before each part that a line of text shows stands a space
abbrev pub space : Part → List ℕ
space (Member name) = []
space ListBegins = []
space ListEnds = []
space ObjectBegins = []
space ObjectEnds = []
space part = 32 ∷ []

-- what the first of a list or of an object, and the value of a name, stand after: `[`, `{`, `:`
abbrev pub is_opening : Option ℕ → Bool
is_opening None = false
is_opening (Some b) = (b == 91) || (b == 123) || (b == 58)

-- after anything else a comma stands
unfoldable pub comma : List ℕ → List ℕ
comma line = if is_opening (slice_get line (length line - 1)) then [] else 44 ∷ []

abbrev pub separator : List ℕ → Part → List ℕ
separator line ListEnds = []
separator line ObjectEnds = []
separator line part = comma line

-- a part after a line
abbrev pub added_by : Form → ℕ → List ℕ → Part → List ℕ
added_by Columns limit line part = space part ++ shown limit part
added_by Json limit line part = separator line part ++ json limit part

abbrev pub added : Style → List ℕ → Part → List ℕ
added style line part = added_by style.form style.limit line part

unfoldable pub extended : Style → List ℕ → Part → List ℕ
extended style line part = line ++ added style line part

-- a line with these parts after it
abbrev pub followed : Style → List ℕ → List Part → List ℕ
followed style line [] = line
followed style line (part ∷ parts) = followed style (extended style line part) parts

-- what a line begins with: the place of a frame
abbrev pub opening_by : Form → ℕ → List ℕ
opening_by Columns place = right 10 place
opening_by Json place = codes "{\"offset\":" ++ decimal place

abbrev pub opening : Style → ℕ → List ℕ
opening style place = opening_by style.form place

-- and what it ends with, before its newline
abbrev pub closing_by : Form → List ℕ
closing_by Columns = []
closing_by Json = codes "}"

abbrev pub closing : Style → List ℕ
closing style = closing_by style.form
