-- The table of a row: its bytes, and where each of its values stands in them.
use Rattle.std.specs.Prelude.{◌≡◌, ◌⊎◌, ℕ, ◌≤◌, List, Option, Some, None, Result, Ok, Err}
use Rattle.std.specs.List.{slice_get, slice_range}
use Rattle.std.specs.Option.{option_map}
use Rattle.std.specs.Result.{result_map_both}
use Rattle.std.specs.declared.ops.Range.{Range}
use Rattle.pgp_base.specs.declared.error.Error.{Error}
use Rattle.pgp_base.specs.Cause.{WantsMemory}
use Rattle.pgp_base.specs.Items.{CountedItems}
use Rattle.pgp_message.specs.Parts.{CountedBytes}
use Rattle.pgp_message.specs.Items.{RangeSpelled, RangeRefused}

-- the bytes of a row, and a place for each column; none for a null
pub record Table : Type 0 where
  pub buffer : List ℕ
  pub places : List (Option (Range ℕ))

-- the row has this list of places, with this end
abbrev pub HasPlaces : CountedBytes → List (Option (Range ℕ)) → Option Error → Type 0
HasPlaces row places end = CountedItems RangeSpelled RangeRefused row.count row.storage places end

-- The table of a row: its list, which is finished; or why it isn't finished; or lack of memory.
abbrev pub Tabulates : CountedBytes → Type 0 → Result Table Error → Type 0
Tabulates row lacks (Ok table) = (table.buffer ≡ row.storage) × HasPlaces row table.places None
Tabulates row lacks (Err e) = WantsMemory lacks e ⊎ ((places : List (Option (Range ℕ))) × HasPlaces row places (Some e))

-- the bytes at a place; none for a null
abbrev pub value_at : List ℕ → Option (Range ℕ) → Option (List ℕ)
value_at buffer None = None
value_at buffer (Some place) = Some (slice_range buffer place.start place.end)

-- the value of a column; none where there is no such column
abbrev pub column : Table → ℕ → Option (Option (List ℕ))
column table i = option_map (value_at table.buffer) (slice_get table.places i)

-- an answer, or the end where there is none
abbrev pub or_end : {P : Type 0} → Option Error → Option P → Result (Option P) Error
or_end end (Some p) = Ok (Some p)
or_end None None = Ok None
or_end (Some e) None = Err e

-- the place of a column that the list reaches, or what is after the list where it doesn't: nothing, or the row's error
abbrev pub place_at : List (Option (Range ℕ)) → Option Error → ℕ → Result (Option (Option (Range ℕ))) Error
place_at places end i = or_end end (slice_get places i)

-- What a column of a row is answered, without a table: its value, where the list reaches it. What stands after it isn't looked at.
pub record HasColumn (row : CountedBytes) (i : ℕ) (result : Result (Option (Option (List ℕ))) Error) : Type 0 where
  pub places : List (Option (Range ℕ))
  pub end : Option Error
  pub has : HasPlaces row places end
  pub answer : result ≡ result_map_both (option_map (value_at row.storage)) (λ e. e) (place_at places end i)

-- a place lies in so many bytes
abbrev pub IsPlaceIn : ℕ → Option (Range ℕ) → Type 0
IsPlaceIn len None = Unit {0}
IsPlaceIn len (Some place) = (place.start ≤ place.end) × (place.end ≤ len)
