-- Frames with their texts, one after another, whatever is known between them.
use Rattle.std.specs.Prelude.{ℕ, ◌+◌, min, List, [], ◌++◌, length}
use Rattle.pgtool_line.specs.Words.{greatest}

-- how many bytes stand before, as far as a number of the machine reports it
abbrev pub place_behind : ℕ → ℕ
place_behind n = min n greatest

-- These bytes, after so many others, are complete frames, and these lines stand in the listing: each frame has its text, in order.
pub data Rows {S : Type 0} (One : (place : ℕ) (here : S) (frame text : List ℕ) (to : S) → Type 0) (start : ℕ) (from : S) : List ℕ → List ℕ → S → Type 0 where
  NoLines : Rows One start from [] [] from
  OneLine : {bytes lines : List ℕ} {here to : S} (frame text : List ℕ) → Rows One start from bytes lines here
      → One (place_behind (start + length bytes)) here frame text to → Rows One start from (bytes ++ frame) (lines ++ text) to
