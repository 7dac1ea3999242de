-- Private: what the steps of a writer come to, which append the parts of a message.
use Rattle.std.specs.Prelude.{◌≡◌, ◌⊎◌, ℕ, ℤ, List, [], length, Option, Some, None}
use Rattle.pgp_base.specs.Cause.{Wants, WantsMemory}
use Rattle.pgp_base.specs.Held.{Held, ◌⊕◌}
use Rattle.pgp_base.specs.declared.error.Error.{Error}
use Rattle.pgp_base.specs.Wire.{nullable, counted}
use Rattle.pgp_base.specs.declared.error.BindError.{BindError}
use Rattle.pgp_base.specs.declared.error.BindError.TheVariants.{Conversion, Serialization}
use Rattle.pgp_frontend.specs.ClientMessage.{Bind}
use Rattle.pgp_frontend.specs.Given.{Arrived, Call, ValuesUpTo, Converts}
use Rattle.pgp_frontend.specs.Payload.{Part, Int16s, Values, spelling, part_cause, parts, parts_cause, joined, bytes_of}

-- the parts have no cause, and stand after what was held
abbrev pub PutsParts : {K : Type 0} → List Part → Held K → Held K → Type 0
PutsParts ps old new = (parts_cause ps ≡ None) × (new ≡ old ⊕ joined ps)

-- they were refused: for want of the memory that they need, or for their first cause
abbrev pub PartsRefused : {K : Type 0} → List Part → (Held K → ℕ → Type 0) → Held K → Error → Type 0
PartsRefused ps lacks old e = WantsMemory (Wants lacks old (length (joined ps))) e ⊎ (parts_cause ps ≡ Some e)

-- the items that came so far were rejected, in the same two ways
abbrev pub ItemsRefused : {K A : Type 0} → (List A → Option A → Type 0) → (List A → Part) → (Held K → ℕ → Type 0) → Held K → Error → Type 0
ItemsRefused {A = A} given part lacks old e = (xs : List A) × Arrived given part xs × (WantsMemory (Wants lacks old (length (spelling (part xs)))) e ⊎ (part_cause (part xs) ≡ Some e))

-- what stands before the values of a `bind` was: it is the message of the formats that came so far, with no value
abbrev pub HeadRefused : {K : Type 0} → List ℕ → List ℕ → (List ℤ → Option ℤ → Type 0) → (Held K → ℕ → Type 0) → Held K → Error → Type 0
HeadRefused portal statement formats lacks old e = (fs : List ℤ) × Arrived formats Int16s fs
    × (WantsMemory (Wants lacks old (length (bytes_of (Bind portal statement fs [] [])))) e ⊎ (parts_cause (parts (Bind portal statement fs [] [])) ≡ Some e))

-- the values were: by the serializer, at their count, or as items are
module _ {T E K : Type 0} (given : List T → Option T → Type 0) (serves : Held K → List T → List (Option (List ℕ)) → Option (Call T E) → Type 0) (here : Held K) where
  abbrev pub ValuesRefused : (Held K → ℕ → Type 0) → Held K → BindError E → Type 0
  ValuesRefused lacks old (Conversion e) = Converts given serves here e
  ValuesRefused lacks old (Serialization e) = (serves here [] [] None × WantsMemory (Wants lacks old 2) e)
      ⊎ ((vs : List (Option (List ℕ))) × ValuesUpTo given serves here vs × (WantsMemory (Wants lacks old (length (counted nullable vs))) e ⊎ (part_cause (Values vs) ≡ Some e)))
