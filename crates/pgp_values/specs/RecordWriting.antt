-- What `record_values_to_sql` comes to.
use Rattle.std.specs.Prelude.{◌≡◌, ◌⊎◌, ℕ, ◌<◌, List, length, Option, Some, None, Result, Ok, Err}
use Rattle.std.specs.List.{flat_map}
use Rattle.pgp_base.specs.declared.error.Error.TheVariants.{OutOfMemory, TooLarge}
use Rattle.pgp_base.specs.declared.error.BindError.{BindError}
use Rattle.pgp_base.specs.declared.error.BindError.TheVariants.{Serialization}
use Rattle.pgp_base.specs.declared.number.IsNull.{IsNull}
use Rattle.pgp_base.specs.Wire.{uint32, oid}
use Rattle.pgp_base.specs.Cause.{Wants}
use Rattle.pgp_base.specs.Held.{Held, ◌⊕◌, Leaves}
use Rattle.pgp_base.specs.Calls.{Gives, Runs, ValueRefused}
use Rattle.pgp_values.specs.Record.{Field, field, composite}
use denote.Ref.{MutBor}

module _ {F T E B K : Type 0} (held : B → Held K) (step : F → T → MutBor B → Result IsNull E → MutBor B → F → Type 0) where
  -- a call at what was given with a type made the field's value, after the type
  abbrev pub MakesField : Held K → F → ℕ × T → Field → F → Type 0
  MakesField here f x v u = (v.0 ≡ x.0) × Gives held step (here ⊕ oid x.0) f x.1 v.1 u

  -- why a field was rejected: the four bytes of its type don't fit, and the serializer wasn't called; or its value was
  abbrev pub FieldRefused : (Held K → ℕ → Type 0) → Held K → F → ℕ × T → BindError E → F → Type 0
  FieldRefused lacks here f x e u = ((e ≡ Serialization OutOfMemory) × Wants lacks here 4 × (u ≡ f)) ⊎ ValueRefused held step lacks (here ⊕ oid x.0) f x.1 e u

-- `given xs None` says that the iterator gave xs and ended, `given xs (Some x)` that it gave xs and then x. The serializer begins as `f` and is left
-- as `last`; `old` is what the buffer held.
module _ {F T E B K : Type 0} (held : B → Held K) (step : F → T → MutBor B → Result IsNull E → MutBor B → F → Type 0) (given : List (ℕ × T) → Option (ℕ × T) → Type 0) (f last : F) (old : Held K) where
  -- the fields, each made by one call, in order, after those before it
  pub record RecordWritten (new : Held K) : Type 0 where
    pub xs : List (ℕ × T)
    pub all : given xs None
    pub fields : List Field
    pub runs : Runs (MakesField held step) field.written (old ⊕ uint32 0) f xs fields last
    pub fits : composite.cause fields ≡ None
    pub appended : new ≡ old ⊕ composite.written fields

  -- after fields that were made, one was given past the count, or was rejected
  pub record RecordStops (lacks : Held K → ℕ → Type 0) (e : BindError E) : Type 0 where
    pub xs : List (ℕ × T)
    pub x : ℕ × T
    pub reached : given xs (Some x)
    pub fields : List Field
    pub at : F
    pub runs : Runs (MakesField held step) field.written (old ⊕ uint32 0) f xs fields at
    pub cause : ((length xs ≡ 2147483647) × (e ≡ Serialization TooLarge) × (last ≡ at)) ⊎ ((length xs < 2147483647) × FieldRefused held step lacks (old ⊕ uint32 0 ⊕ flat_map field.written fields) at x e last)

  -- why the call was rejected: the four bytes of the count don't fit, and the serializer wasn't called; or there
  abbrev pub RecordRefused : (Held K → ℕ → Type 0) → BindError E → Type 0
  RecordRefused lacks e = ((e ≡ Serialization OutOfMemory) × Wants lacks old 4 × (last ≡ f)) ⊎ RecordStops lacks e

  abbrev pub WritesRecord : (Held K → ℕ → Type 0) → Held K → Result (Unit {0}) (BindError E) → Type 0
  WritesRecord lacks new (Ok done) = RecordWritten new
  WritesRecord lacks new (Err e) = RecordRefused lacks e × Leaves old new
