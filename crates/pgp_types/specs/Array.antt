-- Arrays: their dimensions, and their elements row by row, the last dimension the fastest.
-- PostgreSQL manual, "Arrays"; in the server's source `array_send` and `array_recv`.
use Rattle.std.specs.Prelude.{FitsSigned, ◌≡◌, ◌≢◌, ◌⊎◌, ℕ, ℤ, pos, ◌*◌, ◌<◌, ◌≤◌, ◌^◌, Bool, true, false, List, [], ◌∷◌, ◌++◌, length, map, Option, Some, None, Result, Ok, Err, All}
use Rattle.std.specs.Int.{w32}
use Rattle.std.specs.List.{flat_map}
use Rattle.pgp_base.specs.declared.error.Error.{Error}
use Rattle.pgp_base.specs.declared.error.Error.TheVariants.{InvalidCount, InvalidValueLength, InvalidDimension, TooManyElements}
use Rattle.pgp_base.specs.Wire.{int32, uint32, oid as oid_bytes, nullable as nullable_bytes}
use Rattle.pgp_base.specs.Cause.{Cause, either, first, length_cause, nullable_cause}
use Rattle.pgp_base.specs.Walk.{Walk}
use Rattle.pgp_types.specs.declared.array.ArrayDimension.{ArrayDimension}
use Rattle.pgp_types.specs.Format.{Format}
use Rattle.pgp_types.specs.Part.{Part, Begins, IsWalk, fixed_part, natural, nullable, only, ◌then◌}
pub use Rattle.pgp_types.specs.Part.{finished}

-- What is written.

-- a null is none
pub record Array : Type 0 where
  pub dimensions : List ArrayDimension
  pub element_type : ℕ
  pub elements : List (Option (List ℕ))

abbrev pub dimension_bytes : ArrayDimension → List ℕ
dimension_bytes d = int32 d.len ++ int32 d.lower_bound

abbrev pub has_null : List (Option (List ℕ)) → Bool
has_null [] = false
has_null (None ∷ vs) = true
has_null (Some v ∷ vs) = has_null vs

-- whether an element is null, as a number
abbrev pub flag_of : Bool → ℕ
flag_of false = 0
flag_of true = 1

-- how many dimensions there are, the flag, the type of the elements, the dimensions, and the elements
abbrev pub array_bytes : Array → List ℕ
array_bytes a = uint32 (length a.dimensions) ++ uint32 (flag_of (has_null a.elements)) ++ oid_bytes a.element_type ++ flat_map dimension_bytes a.dimensions ++ flat_map nullable_bytes a.elements

-- why an array has no spelling: its dimensions can't be counted, or an element is too long
abbrev pub array_cause : Array → Cause
array_cause a = either (length_cause (length a.dimensions)) (first (map nullable_cause a.elements))

-- numbers in the range of their fields
abbrev pub IsDimension : ArrayDimension → Type 0
IsDimension d = FitsSigned w32 d.len × FitsSigned w32 d.lower_bound

-- What is read.

-- The product of the lengths of dimensions after others whose product is p, from the left, no partial
-- product past the greatest Int32.
abbrev pub Product : ℕ → List ArrayDimension → ℕ → Type 0
Product p [] n = p ≡ n
Product p (d ∷ ds) n = (len : ℕ) × (d.len ≡ pos len) × (p * len ≤ 2147483647) × Product (p * len) ds n

-- how many elements there are where that is their product
abbrev pub elements_of : List ArrayDimension → ℕ → ℕ
elements_of [] product = 0
elements_of (d ∷ ds) product = product

abbrev pub int32_part : Part ℤ
int32_part = fixed_part (FitsSigned w32) int32 4

abbrev pub oid_part : Part ℕ
oid_part = fixed_part (λ n. n < 2 ^ 32) oid_bytes 4

-- how many dimensions there are, the flag, and the type of the elements
abbrev pub head : Part (ℕ × (ℤ × ℕ))
head = natural InvalidCount then (int32_part then oid_part)

-- a dimension after others whose product is p: its length and its lower bound
abbrev pub dimension : ℕ → Part (ℕ × ℤ)
dimension p = only (λ d. p * d.0 ≤ 2147483647) TooManyElements (natural InvalidDimension then int32_part)

-- bytes that begin with these dimensions, whose product is p
pub record Extent (bytes : List ℕ) (ds : List ArrayDimension) (p : ℕ) (rest : List ℕ) : Type 0 where
  pub in_range : All IsDimension ds
  pub are : Product 1 ds p
  pub whole : bytes ≡ flat_map dimension_bytes ds ++ rest

-- bytes that begin with a head and some dimensions
pub record Front (bytes : List ℕ) : Type 0 where
  pub count : ℕ
  pub flag : ℤ
  pub element_type : ℕ
  pub behind : List ℕ
  pub begins : Begins head bytes (count, (flag, element_type)) behind
  pub dimensions : List ArrayDimension
  pub product : ℕ
  pub rest : List ℕ
  pub extent : Extent behind dimensions product rest

-- any flag but 0 is set
abbrev pub IsFlag : Bool → ℤ → Type 0
IsFlag false z = z ≡ pos 0
IsFlag true z = z ≢ pos 0

-- The flag, the type, and the walks over the dimensions and the elements.
pub record ArrayRead : Type 0 where
  pub has_nulls : Bool
  pub element_type : ℕ
  pub dimensions : Walk ArrayDimension
  pub values : Walk (Option (List ℕ))

-- All dimensions stand there, and the elements are a walk over the bytes after them; or the head is rejected, or a
-- dimension after fewer than there are to be.
abbrev pub ArrayReads : List ℕ → Result ArrayRead Error → Type 0
ArrayReads bytes (Ok v) = (f : Front bytes) × (length f.dimensions ≡ f.count) × IsFlag v.has_nulls f.flag × (v.element_type ≡ f.element_type)
    × (v.dimensions ≡ finished f.dimensions) × IsWalk (nullable InvalidValueLength) (elements_of f.dimensions f.product) f.rest v.values
ArrayReads bytes (Err e) = head.Refused bytes e ⊎ ((f : Front bytes) × (length f.dimensions < f.count) × (dimension f.product).Refused f.rest e)

-- The dimensions have a product, and it is the number of elements.
pub record IsArray (a : Array) : Type 0 where
  pub in_range : All IsDimension a.dimensions
  pub type : a.element_type < 2 ^ 32
  pub product : ℕ
  pub are : Product 1 a.dimensions product
  pub elements : length a.elements ≡ elements_of a.dimensions product

abbrev pub array_seen : Array → ArrayRead
array_seen a = record { has_nulls = has_null a.elements; element_type = a.element_type; dimensions = finished a.dimensions; values = finished a.elements }

abbrev pub array : Format Array ArrayRead
array = record { IsValue = IsArray; written = array_bytes; cause = array_cause; seen = array_seen; Reads = ArrayReads }
