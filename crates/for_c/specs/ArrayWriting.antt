-- Arrays of any dimensions, as C hands them over.
use Rattle.std.specs.Prelude.{◌≡◌, ◌≢◌, ℕ, pos, negsuc, ◌*◌, ◌<◌, List, ◌∷◌, ◌++◌, map, take, drop, None}
use Rattle.std.specs.List.{flat_map}
use Rattle.pgp_base.specs.declared.error.Error.{Error}
use Rattle.pgp_base.specs.declared.error.Error.TheVariants.{InvalidDimension, InvalidSize, TooManyElements}
use Rattle.pgp_base.specs.Wire.{uint32}
use Rattle.pgp_types.specs.Array.{Array, IsDimension, Product, dimension_bytes, elements_of}
use Rattle.pgp_types.specs.Part.{fixed_part}
use Rattle.pgp_types.specs.declared.array.ArrayDimension.{ArrayDimension}
use Rattle.pgp_values.specs.List.{Item}
use Rattle.for_c.specs.Lists.{value_of}
use Rattle.for_c.specs.Putting.{elements_of as elements_bytes}
use Rattle.for_c.specs.declared.array.PgpDimension.{PgpDimension}
use Rattle.for_c.specs.declared.listing.PgpValue.{PgpValue}

abbrev pub dimension_of : PgpDimension → ArrayDimension
dimension_of d = record { len = d.len; lower_bound = d.lower_bound }

-- the array of these dimensions and elements
abbrev pub array_of : ℕ → List PgpDimension → List PgpValue → Array
array_of element_type ds values = record { dimensions = map dimension_of ds; element_type = element_type; elements = map value_of values }

-- the lengths have a product, and it is so many elements
abbrev pub HasShape : List PgpDimension → ℕ → Type 0
HasShape ds count = (p : ℕ) × Product 1 (map dimension_of ds) p × (count ≡ elements_of (map dimension_of ds) p)

-- why a length has no place after others whose product is p
abbrev pub Blames : ℕ → PgpDimension → Error → Type 0
Blames p d InvalidDimension = (k : ℕ) × (d.len ≡ negsuc k)
Blames p d TooManyElements = (n : ℕ) × (d.len ≡ pos n) × (2147483647 < p * n)
Blames p d e = ⊥

-- the first of the dimensions that has none
pub record Stops (ds : List PgpDimension) (e : Error) : Type 0 where
  pub before : ℕ
  pub product : ℕ
  pub are : Product 1 (map dimension_of (take before ds)) product
  pub last : PgpDimension
  pub more : List PgpDimension
  pub rest : drop before ds ≡ last ∷ more
  pub blames : Blames product last e

-- why there is no array of these dimensions and so many elements
abbrev pub Misshapen : List PgpDimension → ℕ → Error → Type 0
Misshapen ds count InvalidSize = (p : ℕ) × Product 1 (map dimension_of ds) p × (count ≢ elements_of (map dimension_of ds) p)
Misshapen ds count e = Stops ds e

-- Private: what the code writes of such an array, one after another.
abbrev pub dimension_item : Item ArrayDimension
dimension_item = record { IsValue = IsDimension; written = dimension_bytes; cause = λ _. None; part = fixed_part IsDimension dimension_bytes 8 }

abbrev pub head_of : ℕ → ℕ → ℕ → List ℕ
head_of count flag element_type = uint32 count ++ uint32 flag ++ uint32 element_type

abbrev pub body_of : List PgpDimension → List PgpValue → List ℕ
body_of ds values = flat_map dimension_bytes (map dimension_of ds) ++ elements_bytes values
