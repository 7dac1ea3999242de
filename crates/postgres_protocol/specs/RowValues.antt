-- A row whose values are read as numbers of four bytes.
use Rattle.std.specs.Prelude.{◌⊎◌, ℕ, ℤ, List, [], ◌∷◌, Option, Some, None, Result, Ok, Err}
use Rattle.std.specs.declared.ops.Range.{Range}
use Rattle.pgp_base.specs.declared.error.Error.{Error}
use Rattle.pgp_base.specs.Cause.{WantsMemory}
use Rattle.pgp_message.specs.Parts.{CountedBytes}
use Rattle.pgp_message.specs.Table.{HasPlaces, value_at}
use Rattle.pgp_types.specs.Format.{Reads}
use Rattle.pgp_types.specs.Scalar.{int4}

-- none for a null, and the reading of any other value
abbrev pub IsInt4 : Option (List ℕ) → Option (Result ℤ Error) → Type 0
IsInt4 None None = Unit {0}
IsInt4 None (Some r) = ⊥
IsInt4 (Some bytes) None = ⊥
IsInt4 (Some bytes) (Some r) = Reads int4 bytes r

-- each value of these places, in order
abbrev pub AreInt4 : List ℕ → List (Option (Range ℕ)) → List (Option (Result ℤ Error)) → Type 0
AreInt4 buffer [] [] = Unit {0}
AreInt4 buffer [] (r ∷ rs) = ⊥
AreInt4 buffer (p ∷ ps) [] = ⊥
AreInt4 buffer (p ∷ ps) (r ∷ rs) = IsInt4 (value_at buffer p) r × AreInt4 buffer ps rs

-- All values of a row that ends well; or why it doesn't; or lack of memory.
abbrev pub RowRead : {X : Type 0} → (X → List (Option (Result ℤ Error))) → CountedBytes → Type 0 → Result X Error → Type 0
RowRead view row lacks (Ok x) = (places : List (Option (Range ℕ))) × HasPlaces row places None × AreInt4 row.storage places (view x)
RowRead view row lacks (Err e) = WantsMemory lacks e ⊎ ((places : List (Option (Range ℕ))) × HasPlaces row places (Some e))
