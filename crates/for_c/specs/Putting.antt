-- Values of several parts, as C hands them over to be written.
use Rattle.std.specs.Prelude.{◌≡◌, ◌⊎◌, ℕ, ◌<◌, pos, Bool, false, not, ◌&&◌, ◌||◌, List, [], ◌∷◌, ◌++◌, map, length, Option, Some, nat_eq, if◌then◌else◌, ⊤}
use Rattle.std.specs.List.{flat_map, list_all}
use Rattle.std.specs.Str.{is_utf8}
use Rattle.pgp_base.specs.Cause.{Cause, first, nullable_cause}
use Rattle.pgp_base.specs.Wire.{nullable, uint32}
use Rattle.pgp_base.specs.declared.error.Error.TheVariants.{InvalidValueLength, TooLarge}
use Rattle.pgp_types.specs.Array.{Array, array_cause}
use Rattle.pgp_types.specs.Hstore.{Entry, IsEntry, entry, entry_bytes, entry_cause, hstore}
use Rattle.pgp_types.specs.Part.{nullable as nullable_part}
use Rattle.pgp_types.specs.Range.{Range, Side, between, range_cause}
use Rattle.pgp_types.specs.declared.range.RangeBound.TheVariants.{Inclusive, Exclusive, Unbounded}
use Rattle.pgp_values.specs.List.{Item}
use Rattle.for_c.specs.Lists.{value_of}
use Rattle.for_c.specs.declared.hstore.PgpKeyValue.{PgpKeyValue}
use Rattle.for_c.specs.declared.listing.PgpValue.{PgpValue}
use Rattle.for_c.specs.declared.range.PgpSide.{PgpSide}

-- a side of a range
abbrev pub side_of : PgpSide → Side
side_of s = if nat_eq s.kind 0 then Unbounded else if nat_eq s.kind 1 then Inclusive (value_of s.value) else Exclusive (value_of s.value)

abbrev pub range_of_sides : PgpSide → PgpSide → Range
range_of_sides l u = between (side_of l) (side_of u)

-- why no range of these sides is written: a kind is none, or a bound's value is too long
abbrev pub IsNoRange : PgpSide → PgpSide → ℕ → Type 0
IsNoRange l u code = ((code ≡ 35) × ((2 < l.kind) ⊎ (2 < u.kind))) ⊎ ((code ≡ 3) × (range_cause (range_of_sides l u) ≡ Some TooLarge))

-- the array of one dimension, from 1, of these elements
abbrev pub list_of : ℕ → List PgpValue → Array
list_of element_type values = record { dimensions = record { len = pos (length values); lower_bound = pos 1 } ∷ []; element_type = element_type; elements = map value_of values }

-- why it isn't written: an element is too long, or there are too many
abbrev pub IsNoList : ℕ → List PgpValue → ℕ → Type 0
IsNoList element_type values code = (code ≡ 3) × ((2147483647 < length values) ⊎ (array_cause (list_of element_type values) ≡ Some TooLarge))

-- a key and a value of an hstore
abbrev pub entry_of : PgpKeyValue → Entry
entry_of p = (p.key.now, value_of p.value)

-- both are UTF-8, or the value is a null
abbrev pub are_texts : PgpKeyValue → Bool
are_texts p = is_utf8 p.key.now && (p.value.is_null || is_utf8 p.value.bytes.now)

-- why no hstore of these is written: a key or a value isn't text; or one is too long, or there are too many
abbrev pub IsNoHstore : List PgpKeyValue → ℕ → Type 0
IsNoHstore pairs code = ((code ≡ 9) × (list_all are_texts pairs ≡ false)) ⊎ ((code ≡ 3) × (hstore.cause (map entry_of pairs) ≡ Some TooLarge))

-- Private: the items of an hstore and of an array, as lists are written.
abbrev pub entry_item : Item Entry
entry_item = record { IsValue = IsEntry; written = entry_bytes; cause = entry_cause; part = entry }

abbrev pub element_item : Item (Option (List ℕ))
element_item = record { IsValue = λ _. ⊤; written = nullable; cause = nullable_cause; part = nullable_part InvalidValueLength }

-- Private: what the code writes of such an array, and the first cause of an element.
abbrev pub has_value : PgpValue → Bool
has_value v = not v.is_null

abbrev pub flag_in : List PgpValue → ℕ
flag_in values = if list_all has_value values then 0 else 1

abbrev pub head_of : ℕ → List PgpValue → List ℕ
head_of element_type values = uint32 1 ++ uint32 (flag_in values) ++ uint32 element_type ++ uint32 (length values) ++ uint32 1

abbrev pub elements_of : List PgpValue → List ℕ
elements_of values = flat_map nullable (map value_of values)

abbrev pub elements_cause : List PgpValue → Cause
elements_cause values = first (map nullable_cause (map value_of values))
