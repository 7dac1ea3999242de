-- Arrays of one dimension as lists of a type's values: what a column is as such a list, and the message that binds one.
-- PostgreSQL manual, "Arrays"; the layout as a server sends it.
use Rattle.std.specs.Prelude.{◌≡◌, ◌⊎◌, ℕ, ℤ, pos, ◌<◌, ◌≤◌, List, [], ◌∷◌, ◌++◌, length, map, Option, Some, None, option_map, Result, Ok, Err}
use Rattle.std.specs.List.{AllZip}
use Rattle.pgp_base.specs.Cause.{Wants, WantsMemory, length_cause}
use Rattle.pgp_base.specs.Held.{Held, ◌⊕◌, Leaves}
use Rattle.pgp_base.specs.Walk.{Walk}
use Rattle.pgp_base.specs.declared.error.Error.{Error}
use Rattle.pgp_base.specs.declared.number.IsNull.{IsNull}
use Rattle.pgp_base.specs.declared.number.IsNull.TheVariants.{No}
use Rattle.pgp_base.specs.declared.error.BindError.{BindError}
use Rattle.pgp_base.specs.declared.error.BindError.TheVariants.{Conversion, Serialization}
use Rattle.pgp_frontend.specs.ClientMessage.{ClientMessage}
use Rattle.pgp_frontend.specs.Payload.{bytes_of, cause}
use Rattle.pgp_types.specs.Array.{Array, ArrayRead, array, array_bytes}
use Rattle.pgp_types.specs.Format.{Format, Plain, Reads}
use Rattle.pgp_types.specs.Scalar.{int4}
use Rattle.postgres_protocol.specs.ArraySteps.{IsReadBack}
use Rattle.pgp_uses.specs.Values.{bound}
use Rattle.pgp_uses.specs.declared.arrays.ArrayError.{ArrayError}
use Rattle.pgp_uses.specs.declared.arrays.ArrayError.TheVariants.{NoColumn, Dimensions, Value, OutOfMemory}

-- Reading. What is read of an element is seen through `view`.
module _ {X V R : Type 0} (view : X → R) (f : Format V R) where
  -- a null is none, and any other element is read as the format says
  abbrev pub ReadsElement : Option (List ℕ) → Result (Option X) Error → Type 0
  ReadsElement None (Ok None) = Unit {0}
  ReadsElement (Some bytes) (Ok (Some x)) = Reads f bytes (Ok (view x))
  ReadsElement (Some bytes) (Err e) = Reads f bytes (Err e)
  ReadsElement element result = ⊥

  -- the elements, in order
  abbrev pub ReadsElements : List (Option (List ℕ)) → List (Option X) → Type 0
  ReadsElements elements xs = AllZip (λ element x. ReadsElement element (Ok x)) elements xs

  -- the first element that is rejected
  pub record RefusesElement (elements : List (Option (List ℕ))) (e : Error) : Type 0 where
    pub before : List (Option (List ℕ))
    pub element : Option (List ℕ)
    pub more : List (Option (List ℕ))
    pub are : elements ≡ before ++ element ∷ more
    pub xs : List (Option X)
    pub read : ReadsElements before xs
    pub refused : ReadsElement element (Err e)

  -- the elements are read, and what stands after them is rejected
  pub record RefusesEnd (w : Walk (Option (List ℕ))) (e : Error) : Type 0 where
    pub end : w.end ≡ Some e
    pub xs : List (Option X)
    pub read : ReadsElements w.items xs

  -- `list` shows the list that was made; `lacks` says that memory for it was refused.
  module _ {Y : Type 0} (list : Y → List (Option X)) (lacks : Type 0) where
    -- all elements of an array, in order; or an error
    abbrev pub ReadsWalk : Walk (Option (List ℕ)) → Result Y ArrayError → Type 0
    ReadsWalk w (Ok y) = (w.end ≡ None) × ReadsElements w.items (list y)
    ReadsWalk w (Err (Value e)) = RefusesElement w.items e ⊎ RefusesEnd w e
    ReadsWalk w (Err OutOfMemory) = lacks
    ReadsWalk w result = ⊥

    -- the bytes are an array of one dimension, or of none, and this comes of its elements
    abbrev pub ReadsOne : List ℕ → Result Y ArrayError → Type 0
    ReadsOne bytes result = (read : ArrayRead) × Reads array bytes (Ok read) × (length read.dimensions.items ≤ 1) × ReadsWalk read.values result

    -- The elements of such an array; or the bytes are no array, or one of more dimensions.
    abbrev pub ReadsList : List ℕ → Result Y ArrayError → Type 0
    ReadsList bytes (Ok y) = ReadsOne bytes (Ok y)
    ReadsList bytes (Err (Value e)) = Reads array bytes (Err e) ⊎ ReadsOne bytes (Err (Value e))
    ReadsList bytes (Err Dimensions) = (read : ArrayRead) × Reads array bytes (Ok read) × (1 < length read.dimensions.items)
    ReadsList bytes (Err OutOfMemory) = lacks
    ReadsList bytes (Err NoColumn) = ⊥

    -- There is no such column; or it is null, and so is the list; or its bytes are read as a list.
    abbrev pub ReadsListColumn : Option (Option (List ℕ)) → Result (Option Y) ArrayError → Type 0
    ReadsListColumn None (Err NoColumn) = Unit {0}
    ReadsListColumn (Some None) (Ok None) = Unit {0}
    ReadsListColumn (Some (Some bytes)) (Ok (Some y)) = ReadsList bytes (Ok y)
    ReadsListColumn (Some (Some bytes)) (Err e) = ReadsList bytes (Err e)
    ReadsListColumn bytes result = ⊥

-- Writing.

-- the array of these values in one dimension, of which the first has the index 1
abbrev pub array_of : {V : Type 0} → Plain V → ℕ → List (Option V) → Array
array_of f element_type values = record {
  dimensions = record { len = pos (length values); lower_bound = pos 1 } ∷ [];
  element_type = element_type;
  elements = map (option_map f.written) values;
}

-- of int4, whose identifier is 23
abbrev pub int4_array : List (Option ℤ) → Array
int4_array values = array_of int4 23 values

-- the message that binds it, in binary, to the one parameter of the unnamed statement
abbrev pub binding : List (Option ℤ) → ClientMessage
binding values = bound (Some (array_bytes (int4_array values)))

-- What a `bind` of the array comes to: its message; or the array is rejected, or the message is, and the bytes are
-- left.
abbrev pub BindsInt4s : {K : Type 0} → List (Option ℤ) → (Held K → ℕ → Type 0) → Held K → Held K → Result (Unit {0}) (BindError Error) → Type 0
BindsInt4s values lacks old new (Ok done) = (cause (binding values) ≡ None) × (new ≡ old ⊕ bytes_of (binding values))
BindsInt4s values lacks old new (Err (Conversion e)) = (WantsMemory (Wants lacks old (length (bytes_of (binding values)))) e ⊎ (length_cause (length values) ≡ Some e)) × Leaves old new
BindsInt4s values lacks old new (Err (Serialization e)) = (WantsMemory (Wants lacks old (length (bytes_of (binding values)))) e ⊎ (cause (binding values) ≡ Some e)) × Leaves old new

-- the array's bytes stand after the old ones, and are no null; or it is rejected, and they are left
abbrev pub PutsInt4s : {K : Type 0} → List (Option ℤ) → (Held K → ℕ → Type 0) → Held K → Held K → Result IsNull Error → Type 0
PutsInt4s values lacks old new (Ok null) = (null ≡ No) × (length_cause (length values) ≡ None) × (new ≡ old ⊕ array_bytes (int4_array values))
PutsInt4s values lacks old new (Err e) = (WantsMemory (Wants lacks old (length (array_bytes (int4_array values)))) e ⊎ (length_cause (length values) ≡ Some e)) × Leaves old new

-- What was bound is read back.

abbrev pub IsInt4 : Option ℤ → Type 0
IsInt4 None = Unit {0}
IsInt4 (Some z) = int4.IsValue z

-- A server that knows only the grammar reads the message and its array, and nothing else (`IsReadBack`); and the array is
-- these values as a list.
pub record AreReadBack (values : List (Option ℤ)) : Type 0 where
  pub message : IsReadBack (int4_array values).dimensions 23 (int4_array values).elements
  pub list : ReadsList (λ (z : ℤ). z) int4 (λ xs. xs) ⊥ (array_bytes (int4_array values)) (Ok values)
