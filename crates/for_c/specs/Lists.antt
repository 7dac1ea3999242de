-- The items of lists, as C hands them over.
use Rattle.std.specs.Prelude.{◌≡◌, ℕ, true, false, List, length, Option, Some, None, Result, Ok, Err, if◌then◌else◌}
use Rattle.pgp_base.specs.Cause.{WantsMemory}
use Rattle.pgp_base.specs.Held.{Held, ◌⊕◌}
use Rattle.pgp_base.specs.declared.error.Error.{Error}
use Rattle.pgp_base.specs.declared.number.IsNull.{IsNull}
use Rattle.pgp_base.specs.declared.number.IsNull.TheVariants.{Yes, No}
use Rattle.for_c.specs.declared.listing.PgpValue.{PgpValue}
pub use Rattle.pgp_base.specs.Error.{error_of}

-- the bytes of a value, or none for a null
abbrev pub value_of : PgpValue → Option (List ℕ)
value_of v = if v.is_null then None else Some v.bytes.now

-- a call of the serializer: a null appends nothing, any other value its bytes
abbrev pub Puts : {K : Type 0} → PgpValue → (Held K → ℕ → Type 0) → Held K → Held K → Result IsNull Error → Type 0
Puts v lacks old new (Ok Yes) = (v.is_null ≡ true) × (new ≡ old)
Puts v lacks old new (Ok No) = (v.is_null ≡ false) × (new ≡ old ⊕ v.bytes.now)
Puts v lacks old new (Err e) = (v.is_null ≡ false) × WantsMemory (lacks old (length v.bytes.now)) e × (new ≡ old)
