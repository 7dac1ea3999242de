-- An array whose elements are put where they stand.
use Rattle.std.specs.Prelude.{◌≡◌, ℕ, List, [], map, Option, None}
use Rattle.pgp_types.specs.Array.{Array, Product, array_bytes, array_cause, elements_of}
use Rattle.for_c.specs.ArrayWriting.{dimension_of}
use Rattle.for_c.specs.InPlace.{HasItems}
use Rattle.for_c.specs.declared.array.PgpDimension.{PgpDimension}
use Rattle.for_c.specs.declared.in_place.PgpItems.{PgpItems}

-- the array of these dimensions and elements
abbrev pub array_with : ℕ → List PgpDimension → List (Option (List ℕ)) → Array
array_with element_type ds elements = record { dimensions = map dimension_of ds; element_type = element_type; elements = elements }

-- An array of these dimensions, of whose elements these stand there: after what is written of the array without elements.
pub record ArraySoFar (element_type : ℕ) (ds : List PgpDimension) (elements : List (Option (List ℕ))) (out : List ℕ) (s : PgpItems) : Type 0 where
  pub product : ℕ
  pub are : Product 1 (map dimension_of ds) product
  pub none : array_cause (array_with element_type ds []) ≡ None
  pub items : HasItems (array_bytes (array_with element_type ds [])) elements (elements_of (map dimension_of ds) product) out s
