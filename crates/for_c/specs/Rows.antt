-- A row at the front of a stream, and the places of its values.
use Rattle.std.specs.Prelude.{◌≡◌, ℕ, zero, suc, ◌<◌, ◌≤◌, List, length, drop, map, All, Option, Ok}
use Rattle.std.specs.declared.ops.Range.{Range}
use Rattle.pgp_message.specs.BackendMessage.{DataRow}
use Rattle.pgp_message.specs.Items.{RangeSpelled, RangeRefused}
use Rattle.pgp_message.specs.Parts.{CountedBytes}
use Rattle.pgp_message.specs.Stream.{TakesFrame}
use Rattle.for_c.specs.Front.{Reported}
use Rattle.for_c.specs.Listings.{IsColumnInside, range_of}
use Rattle.for_c.specs.Walks.{IsEnded, RefusesItem, TakesAll}
use Rattle.for_c.specs.declared.cursor.PgpCursor.{PgpCursor}
use Rattle.for_c.specs.declared.front.PgpMessage.{PgpMessage}
use Rattle.for_c.specs.declared.row.PgpColumn.{PgpColumn}

-- The bytes begin with a row of so many values, whose frame takes so many of them.
pub record BeginsWithRow (bytes : List ℕ) (frame count : ℕ) : Type 0 where
  pub row : CountedBytes
  pub takes : TakesFrame bytes (Ok (DataRow row)) (drop frame bytes)
  pub within : frame ≤ length bytes
  pub count_is : row.count ≡ count

-- before the first value, which stands after the header and the count
abbrev pub first_value : ℕ → ℕ → PgpCursor
first_value frame count = record { at = 7; end = frame; left = count }

-- These are the places of all of its values, inside the frame.
pub record HasValues (bytes : List ℕ) (frame count : ℕ) (columns : List PgpColumn) : Type 0 where
  pub last : PgpCursor
  pub taken : TakesAll RangeSpelled bytes (first_value frame count) last (map range_of columns)
  pub ended : IsEnded bytes last
  pub inside : All (IsColumnInside frame) columns

-- Its values are malformed: so many stand there, and then none, or bytes after the last.
pub record LacksValue (bytes : List ℕ) (frame count code : ℕ) : Type 0 where
  pub values : List (Option (Range ℕ))
  pub last : PgpCursor
  pub taken : TakesAll RangeSpelled bytes (first_value frame count) last values
  pub refused : RefusesItem RangeRefused bytes last code

-- what is returned where no row is at the front, by the code that `pgp_front` returns: 101 where that is 0, of another message
abbrev pub code_without_row : ℕ → ℕ
code_without_row zero = 101
code_without_row (suc n) = suc n

-- Why no row is read, where `old` were the columns and `kept` the count: the columns and the count now, and the code. 102: there is room for fewer. `NoRow`: none is at the front.
pub data ReadsNoRow (bytes : List ℕ) (old : List PgpColumn) (kept : ℕ) : (new : List PgpColumn) → (count code : ℕ) → Type 0 where
  NoRow : {code : ℕ} → ((row : CountedBytes) (rest : List ℕ) → TakesFrame bytes (Ok (DataRow row)) rest → ⊥) → (message : PgpMessage) (front_code : ℕ) → Reported bytes message front_code
      → code ≡ code_without_row front_code → ReadsNoRow bytes old kept old kept code
  Full : {frame count : ℕ} → BeginsWithRow bytes frame count → length old < count → ReadsNoRow bytes old kept old count 102
  Malformed : {new : List PgpColumn} → {frame count code : ℕ} → BeginsWithRow bytes frame count → count ≤ length old → LacksValue bytes frame count code
      → drop count new ≡ drop count old → ReadsNoRow bytes old kept new kept code
