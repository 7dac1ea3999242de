-- The text of an array whose elements have texts.
-- PostgreSQL manual, "Arrays", "Array Input and Output Syntax".
use Rattle.std.specs.Prelude.{◌≡◌, ℕ, zero, suc, ◌+◌, ◌/◌, ◌%◌, ◌==◌, ◌&&◌, nat_lt, if◌then◌else◌, Bool, true, false, ℤ, pos, ◌+ℤ◌, ◌-ℤ◌, unsigned_abs, List, [], ◌∷◌, ◌++◌, length, codes, Option, Some, None}
use Rattle.std.specs.Ordering.{int_eq}
use Rattle.std.specs.Fmt.{signed_decimal}
use Rattle.std.specs.List.{flat_map, list_all}
use Rattle.pgp_base.specs.Walk.{hint_of}
use Rattle.pgp_types.specs.Array.{ArrayRead}
use Rattle.pgp_types.specs.declared.array.ArrayDimension.{ArrayDimension}
use Rattle.pgp_value_text.specs.Parts.{ShowsEach}
use Rattle.pgp_value_text.specs.Quoting.{quoted}
use Rattle.pgp_value_text.specs.RangeText.{IsElementText}

-- a row of so many elements begins at a place
abbrev pub begins_row : ℕ → ℕ → Bool
begins_row size place = nat_lt 0 size && (place % size == 0)

-- the parts of a row of so many elements have so many
abbrev pub part_size : ℕ → ArrayDimension → ℕ
part_size size d = if unsigned_abs d.len == 0 then 0 else size / unsigned_abs d.len

-- a brace for each row that begins at a place: the whole array, each of its parts along the first dimension, and so on
abbrev pub braces : ℕ → ℕ → List ArrayDimension → ℕ → List ℕ
braces brace size [] place = []
braces brace size (d ∷ ds) place = (if begins_row size place then brace ∷ [] else []) ++ braces brace (part_size size d) ds place

-- what stands between two elements: a semicolon between boxes, in whose texts commas stand, and a comma between others (`typdelim` of `pg_type`)
abbrev pub separator : ℕ → ℕ
separator type_oid = if type_oid == 603 then 59 else 44

-- the text of an element as it stands there; a box needs no quotes
abbrev pub within : ℕ → List ℕ → List ℕ
within type_oid shown = if type_oid == 603 then shown else quoted false shown

-- a null, or an element that has a text
abbrev pub ShowsElement : ℕ → Option (List ℕ) → List ℕ → Type 0
ShowsElement type_oid None text = text ≡ codes "NULL"
ShowsElement type_oid (Some bytes) text = (shown : List ℕ) × IsElementText type_oid bytes shown × (text ≡ within type_oid shown)

-- the separator where an element stands before, and a brace for each row that begins
abbrev pub opening : (type_oid size : ℕ) → List ArrayDimension → ℕ → List ℕ
opening type_oid size ds place = (if place == 0 then [] else separator type_oid ∷ []) ++ braces 123 size ds place

-- an element in its rows
abbrev pub placed : (type_oid size : ℕ) → List ArrayDimension → ℕ → List ℕ → List ℕ
placed type_oid size ds place text = opening type_oid size ds place ++ text ++ braces 125 size ds (place + 1)

-- `[2:3]`, from the first index to the last
abbrev pub indexes_text : ℤ → ℤ → List ℕ
indexes_text first last = 91 ∷ (signed_decimal first ++ 58 ∷ (signed_decimal last ++ 93 ∷ []))

abbrev pub last_index : ArrayDimension → ℤ
last_index d = d.lower_bound +ℤ d.len -ℤ pos 1

abbrev pub bounds_text : ArrayDimension → List ℕ
bounds_text d = indexes_text d.lower_bound (last_index d)

abbrev pub begins_at_one : ArrayDimension → Bool
begins_at_one d = int_eq d.lower_bound (pos 1)

-- where a dimension doesn't begin at 1
abbrev pub all_bounds : List ArrayDimension → List ℕ
all_bounds ds = if list_all begins_at_one ds then [] else flat_map bounds_text ds ++ 61 ∷ []

-- of so many elements
abbrev pub ShowsSome : ℕ → ArrayRead → List ℕ → Type 0
ShowsSome zero a text = text ≡ codes "{}"
ShowsSome (suc n) a text = ShowsEach (ShowsElement a.element_type) (placed a.element_type (suc n) a.dimensions.items) 0 a.values.items (all_bounds a.dimensions.items) text

-- as many elements stand there as its dimensions say, and no more bytes
abbrev pub ShowsArray : ArrayRead → List ℕ → Type 0
ShowsArray a text = (a.values.end ≡ None) × (length a.values.items ≡ (hint_of a.values.announced).0) × ShowsSome (length a.values.items) a text
