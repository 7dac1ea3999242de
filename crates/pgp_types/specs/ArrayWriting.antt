-- What `array_to_sql` comes to.
use Rattle.std.specs.Prelude.{◌≡◌, ◌⊎◌, ℕ, ◌+◌, ◌*◌, List, length, Option, Some, None, Result, Ok, Err, All}
use Rattle.std.specs.List.{flat_map}
use Rattle.pgp_base.specs.declared.error.Error.TheVariants.{OutOfMemory, TooLarge}
use Rattle.pgp_base.specs.declared.error.Error.{Error}
use Rattle.pgp_base.specs.declared.error.BindError.{BindError}
use Rattle.pgp_base.specs.declared.error.BindError.TheVariants.{Conversion, Serialization}
use Rattle.pgp_base.specs.declared.number.IsNull.{IsNull}
use Rattle.pgp_base.specs.Wire.{uint32, oid, nullable}
use Rattle.pgp_base.specs.Cause.{length_cause, Wants}
use Rattle.pgp_base.specs.Held.{Held, ◌⊕◌, Leaves}
use Rattle.pgp_base.specs.Calls.{Gives, Runs, SoFar, ValueRefused}
use Rattle.pgp_types.specs.declared.array.ArrayDimension.{ArrayDimension}
use Rattle.pgp_types.specs.Array.{Array, IsDimension, dimension_bytes, array_bytes, array_cause}
use denote.Ref.{MutBor}

-- what the buffer holds before the first element: 0 stands where the flag is to come
abbrev pub before_elements : {K : Type 0} → Held K → List ArrayDimension → ℕ → Held K
before_elements old ds element_type = old ⊕ uint32 (length ds) ⊕ uint32 0 ⊕ oid element_type ⊕ flat_map dimension_bytes ds

-- What an iterator gave is one relation: `given xs None` says that it gave xs and ended, `given xs (Some x)` that it
-- gave xs and then x.

-- a dimension came after as many as can be counted
pub record DimensionsPast (given : List ArrayDimension → Option ArrayDimension → Type 0) : Type 0 where
  pub before : List ArrayDimension
  pub last : ArrayDimension
  pub received : given before (Some last)
  pub full : length before ≡ 2147483647

-- an allocation failed that the head of the dimensions so far needs: three numbers, and two for each
abbrev pub WantsHead : {K : Type 0} → (List ArrayDimension → Option ArrayDimension → Type 0) → (Held K → ℕ → Type 0) → Held K → Error → Type 0
WantsHead given lacks old e = (e ≡ OutOfMemory) × ((ds : List ArrayDimension) × SoFar given ds × Wants lacks old (12 + 8 * length ds))

-- The elements that a serializer makes of the items that were given. It begins as `f` and is left as `last`; `here`
-- is what the buffer holds before the first of them.
module _ {F T E B K : Type 0} (held : B → Held K) (step : F → T → MutBor B → Result IsNull E → MutBor B → F → Type 0) (given : List T → Option T → Type 0) (f last : F) (here : Held K) where
  -- it was called once at each item, in order, each time after the elements before it, and made vs
  pub record Made (vs : List (Option (List ℕ))) : Type 0 where
    pub xs : List T
    pub received : given xs None
    pub runs : Runs (Gives held step) nullable here f xs vs last

  -- it made the elements of the first items, and the one after them was rejected
  pub record MadeUpTo (lacks : Held K → ℕ → Type 0) (e : BindError E) : Type 0 where
    pub xs : List T
    pub x : T
    pub received : given xs (Some x)
    pub made : List (Option (List ℕ))
    pub at : F
    pub runs : Runs (Gives held step) nullable here f xs made at
    pub refused : ValueRefused held step lacks (here ⊕ flat_map nullable made) at x e last

-- `array_to_sql` of the dimensions and the elements that were given
module _ {F T E B K : Type 0} (held : B → Held K) (step : F → T → MutBor B → Result IsNull E → MutBor B → F → Type 0) (dimensions : List ArrayDimension → Option ArrayDimension → Type 0) (element_type : ℕ) (elements : List T → Option T → Type 0) (f last : F) (old : Held K) where
  -- the array of the dimensions that came and the elements that the serializer made stands after the old bytes
  pub record ArrayWritten (new : Held K) : Type 0 where
    pub array : Array
    pub received : dimensions array.dimensions None
    pub in_range : All IsDimension array.dimensions
    pub type : array.element_type ≡ element_type
    pub made : Made held step elements f last (before_elements old array.dimensions element_type) array.elements
    pub none : array_cause array ≡ None
    pub appended : new ≡ old ⊕ array_bytes array

  -- before the elements: for lack of memory, or for too many dimensions
  abbrev pub HeadRefused : (Held K → ℕ → Type 0) → BindError E → Type 0
  HeadRefused lacks (Conversion e) = ⊥
  HeadRefused lacks (Serialization e) = WantsHead dimensions lacks old e ⊎ (DimensionsPast dimensions × (e ≡ TooLarge))

  -- at an element
  pub record ElementRefused (lacks : Held K → ℕ → Type 0) (e : BindError E) : Type 0 where
    pub all : List ArrayDimension
    pub received : dimensions all None
    pub fits : length_cause (length all) ≡ None
    pub stops : MadeUpTo held step elements f last (before_elements old all element_type) lacks e

  -- Why the call was rejected: before the elements, and the serializer wasn't called; or at an
  -- element.
  abbrev pub ArrayRefused : (Held K → ℕ → Type 0) → BindError E → Type 0
  ArrayRefused lacks e = (HeadRefused lacks e × (last ≡ f)) ⊎ ElementRefused lacks e

  abbrev pub WritesArray : (Held K → ℕ → Type 0) → Held K → Result (Unit {0}) (BindError E) → Type 0
  WritesArray lacks new (Ok done) = ArrayWritten new
  WritesArray lacks new (Err e) = ArrayRefused lacks e × Leaves old new
