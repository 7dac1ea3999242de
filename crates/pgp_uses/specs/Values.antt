-- What a serializer makes of a parameter.
use Rattle.std.specs.Prelude.{◌≡◌, ◌⊎◌, ℕ, pos, List, [], ◌∷◌, length, Option, Some, None, option_map, Result, Ok, Err}
use Rattle.pgp_base.specs.Cause.{Wants, WantsMemory}
use Rattle.pgp_base.specs.Held.{Held, ◌⊕◌, Leaves}
use Rattle.pgp_base.specs.declared.error.Error.{Error}
use Rattle.pgp_base.specs.declared.error.BindError.{BindError}
use Rattle.pgp_base.specs.declared.error.BindError.TheVariants.{Conversion, Serialization}
use Rattle.pgp_base.specs.declared.number.IsNull.{IsNull}
use Rattle.pgp_base.specs.declared.number.IsNull.TheVariants.{Yes, No}
use Rattle.pgp_frontend.specs.ClientMessage.{ClientMessage, Bind}
use Rattle.pgp_frontend.specs.Payload.{bytes_of, cause}
use Rattle.pgp_types.specs.Format.{Plain}

-- A null: nothing is appended. A value: what the format writes for it, or an error for want of the memory that it needs, or
-- for its cause, which leaves the bytes.
abbrev pub Serializes : {V K : Type 0} → Plain V → Option V → (Held K → ℕ → Type 0) → Held K → Held K → Result IsNull Error → Type 0
Serializes f None lacks old new (Ok Yes) = new ≡ old
Serializes f (Some v) lacks old new (Ok No) = (f.cause v ≡ None) × (new ≡ old ⊕ f.written v)
Serializes f (Some v) lacks old new (Err e) = (WantsMemory (Wants lacks old (length (f.written v))) e ⊎ (f.cause v ≡ Some e)) × Leaves old new
Serializes f value lacks old new result = ⊥

-- the message that binds a value, in binary, to the one parameter of the unnamed statement
abbrev pub bound : Option (List ℕ) → ClientMessage
bound value = Bind [] [] (pos 1 ∷ []) (value ∷ []) []

-- a null always has a spelling
abbrev pub HasSpelling : {V : Type 0} → Plain V → Option V → Type 0
HasSpelling f None = Unit {0}
HasSpelling f (Some v) = f.cause v ≡ None

-- Why a value wasn't written; a null always is. `wanted` says which allocation failed.
abbrev pub RefusesValue : {V : Type 0} → Plain V → Option V → Type 0 → Error → Type 0
RefusesValue f None wanted e = ⊥
RefusesValue f (Some v) wanted e = WantsMemory wanted e ⊎ (f.cause v ≡ Some e)

-- an allocation failed that the message of the value needs
abbrev pub BoundWants : {V K : Type 0} → Plain V → Option V → (Held K → ℕ → Type 0) → Held K → Type 0
BoundWants f value lacks old = Wants lacks old (length (bytes_of (bound (option_map f.written value))))

-- What a `bind` of one value comes to: the message of what its format writes; or the value is rejected, or the
-- message is, and the bytes are left.
abbrev pub BindsValue : {V K : Type 0} → Plain V → Option V → (Held K → ℕ → Type 0) → Held K → Held K → Result (Unit {0}) (BindError Error) → Type 0
BindsValue f value lacks old new (Ok done) = HasSpelling f value × (cause (bound (option_map f.written value)) ≡ None) × (new ≡ old ⊕ bytes_of (bound (option_map f.written value)))
BindsValue f value lacks old new (Err (Conversion e)) = RefusesValue f value (BoundWants f value lacks old) e × Leaves old new
BindsValue f value lacks old new (Err (Serialization e)) = (WantsMemory (BoundWants f value lacks old) e ⊎ (HasSpelling f value × (cause (bound (option_map f.written value)) ≡ Some e))) × Leaves old new
