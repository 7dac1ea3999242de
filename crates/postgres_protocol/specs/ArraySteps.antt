-- An array as the one value of a `bind`, for every list of what its serializer does.
use Rattle.std.specs.Prelude.{◌≡◌, ◌≢◌, ◌⊎◌, ℕ, pos, List, [], ◌∷◌, ◌++◌, length, map, take, Option, Some, None, Result, Ok, Err}
use Rattle.pgp_base.specs.declared.error.Error.{Error}
use Rattle.pgp_base.specs.declared.error.BindError.{BindError}
use Rattle.pgp_base.specs.declared.error.BindError.TheVariants.{Conversion, Serialization}
use Rattle.pgp_base.specs.declared.number.IsNull.{IsNull}
use Rattle.pgp_base.specs.declared.number.IsNull.TheVariants.{Yes, No}
use Rattle.pgp_base.specs.Cause.{Wants, WantsMemory}
use Rattle.pgp_base.specs.Held.{Held, ◌⊕◌, Leaves}
use Rattle.pgp_frontend.specs.ClientMessage.{ClientMessage, Bind}
use Rattle.pgp_frontend.specs.Payload.{tag_of, bytes_of, cause}
use Rattle.pgp_frontend.specs.Reading.{IsSpelled}
use Rattle.pgp_types.specs.declared.array.ArrayDimension.{ArrayDimension}
use Rattle.pgp_types.specs.Array.{Array, ArrayRead, array, array_seen, array_bytes, array_cause}
use Rattle.pgp_types.specs.Format.{Reads}
use Rattle.postgres_protocol.specs.declared.laws.array.Step.{Step}
use Rattle.postgres_protocol.specs.declared.laws.array.Step.TheVariants.{Append, Null, Refuse}

-- What a step does to a buffer, and returns.
abbrev pub Does : {K : Type 0} → Step → (Held K → ℕ → Type 0) → Held K → Held K → Result IsNull Error → Type 0
Does (Append bytes) lacks old new (Ok null) = (null ≡ No) × (new ≡ old ⊕ bytes.items)
Does (Append bytes) lacks old new (Err e) = WantsMemory (Wants lacks old (length bytes.items)) e × (new ≡ old)
Does Null lacks old new (Ok null) = (null ≡ Yes) × (new ≡ old)
Does Null lacks old new (Err e) = ⊥
Does (Refuse d) lacks old new (Ok null) = ⊥
Does (Refuse d) lacks old new (Err e) = (e ≡ d) × (new ≡ old)

-- the element that a step gives; there is none where it rejects
abbrev pub gives : Step → Option (Option (List ℕ))
gives (Append bytes) = Some (Some bytes.items)
gives Null = Some None
gives (Refuse e) = None

-- the steps all give an element, and these are they
abbrev pub Give : List Step → List (Option (List ℕ)) → Type 0
Give steps vs = map gives steps ≡ map (λ v. Some v) vs

-- Why a step that is reached refuses. `Wanted bytes` says that an allocation failed that these bytes need.
abbrev pub RefusesAt : (List ℕ → Type 0) → Step → Error → Type 0
RefusesAt Wanted (Append bytes) e = WantsMemory (Wanted bytes.items) e
RefusesAt Wanted Null e = ⊥
RefusesAt Wanted (Refuse d) e = e ≡ d

-- An array of these dimensions and elements, and the message that binds it.
module _ (dimensions : List ArrayDimension) (element_type : ℕ) (vs : List (Option (List ℕ))) where
  abbrev pub array_of : Array
  array_of = record { dimensions = dimensions; element_type = element_type; elements = vs }

  -- in binary, to the one parameter of the unnamed statement
  abbrev pub binding : ClientMessage
  binding = Bind [] [] (pos 1 ∷ []) (Some (array_bytes array_of) ∷ []) []

  -- What a server that knows only the grammar makes of the message's bytes, whatever follows them: a tagged message
  -- that stands there is this one. And its value is read as the array, and as nothing else.
  pub record IsReadBack : Type 0 where
    pub spelled : IsSpelled binding
    pub message : (m : ClientMessage) (more rest : List ℕ) → tag_of m ≢ None → IsSpelled m → bytes_of m ++ rest ≡ bytes_of binding ++ more → (m ≡ binding) × (rest ≡ more)
    pub value : Reads array (array_bytes array_of) (Ok (array_seen array_of))
    pub only : (r : Result ArrayRead Error) → Reads array (array_bytes array_of) r → r ≡ Ok (array_seen array_of)

module _ (dimensions : List ArrayDimension) (element_type : ℕ) where
  -- an allocation failed that the array of these elements needs
  abbrev pub ArrayWants : {K : Type 0} → (Held K → ℕ → Type 0) → Held K → List (Option (List ℕ)) → Type 0
  ArrayWants lacks old vs = Wants lacks old (length (array_bytes (array_of dimensions element_type vs)))

  -- an allocation failed that the message which binds these elements needs
  abbrev pub BindWants : {K : Type 0} → (Held K → ℕ → Type 0) → Held K → List (Option (List ℕ)) → Type 0
  BindWants lacks old vs = Wants lacks old (length (bytes_of (binding dimensions element_type vs)))

module _ (dimensions : List ArrayDimension) (element_type : ℕ) (steps : List Step) where
  -- After steps that give elements, with which the array has no cause, one refuses. `Wanted vs` says that an allocation
  -- failed that what is written of these elements needs.
  pub record StepRefuses (Wanted : List (Option (List ℕ)) → Type 0) (e : Error) : Type 0 where
    pub before : List Step
    pub step : Step
    pub more : List Step
    pub are : steps ≡ before ++ step ∷ more
    pub vs : List (Option (List ℕ))
    pub give : Give before vs
    pub none : array_cause (array_of dimensions element_type vs) ≡ None
    pub refuses : RefusesAt (λ bytes. Wanted (vs ++ Some bytes ∷ [])) step e

  -- An allocation failed that what is written of the first elements needs. Where a step comes after them, a null stands for
  -- its element: no more than the place of its length was asked for.
  pub record ElementsWant (Wanted : List (Option (List ℕ)) → Type 0) : Type 0 where
    pub before : List Step
    pub more : List Step
    pub are : steps ≡ before ++ more
    pub vs : List (Option (List ℕ))
    pub give : Give before vs
    pub wanted : Wanted (vs ++ map (λ step. None) (take 1 more))

  -- the first steps give elements with which the array has this cause
  pub record HasCause (e : Error) : Type 0 where
    pub before : List Step
    pub more : List Step
    pub are : steps ≡ before ++ more
    pub vs : List (Option (List ℕ))
    pub give : Give before vs
    pub some : array_cause (array_of dimensions element_type vs) ≡ Some e

  -- why the array was refused: by a step; or for its own cause, or for lack of memory
  abbrev pub ArrayRefused : (List (Option (List ℕ)) → Type 0) → BindError Error → Type 0
  ArrayRefused Wanted (Conversion e) = StepRefuses Wanted e
  ArrayRefused Wanted (Serialization e) = WantsMemory (ElementsWant Wanted) e ⊎ HasCause e

  -- the array of the elements that the steps give stands after the old bytes, and has no cause
  pub record ArrayAppended {K : Type 0} (old new : Held K) : Type 0 where
    pub vs : List (Option (List ℕ))
    pub give : Give steps vs
    pub none : array_cause (array_of dimensions element_type vs) ≡ None
    pub appended : new ≡ old ⊕ array_bytes (array_of dimensions element_type vs)

  abbrev pub WritesSteps : {K : Type 0} → (Held K → ℕ → Type 0) → Held K → Held K → Result IsNull (BindError Error) → Type 0
  WritesSteps lacks old new (Ok null) = (null ≡ No) × ArrayAppended old new
  WritesSteps lacks old new (Err e) = ArrayRefused (ArrayWants dimensions element_type lacks old) e × Leaves old new

  -- the frame of the message stands after the old bytes, and neither it nor the array has a cause
  pub record BindAppended {K : Type 0} (old new : Held K) : Type 0 where
    pub vs : List (Option (List ℕ))
    pub give : Give steps vs
    pub none : array_cause (array_of dimensions element_type vs) ≡ None
    pub fits : cause (binding dimensions element_type vs) ≡ None
    pub appended : new ≡ old ⊕ bytes_of (binding dimensions element_type vs)

  -- the steps give an array, and the message has this cause
  pub record IsTooLong (e : Error) : Type 0 where
    pub vs : List (Option (List ℕ))
    pub give : Give steps vs
    pub none : array_cause (array_of dimensions element_type vs) ≡ None
    pub some : cause (binding dimensions element_type vs) ≡ Some e

  -- why the message was refused: as the array was; or for its own cause, or for lack of memory
  abbrev pub BindRefused : (List (Option (List ℕ)) → Type 0) → BindError (BindError Error) → Type 0
  BindRefused Wanted (Conversion e) = ArrayRefused Wanted e
  BindRefused Wanted (Serialization e) = WantsMemory (ElementsWant Wanted) e ⊎ IsTooLong e

  abbrev pub BindsArray : {K : Type 0} → (Held K → ℕ → Type 0) → Held K → Held K → Result (Unit {0}) (BindError (BindError Error)) → Type 0
  BindsArray lacks old new (Ok done) = BindAppended old new
  BindsArray lacks old new (Err e) = BindRefused (BindWants dimensions element_type lacks old) e × Leaves old new
