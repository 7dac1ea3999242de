-- What a `bind` of one value comes to, which a serializer makes.
use Rattle.std.specs.Prelude.{◌≡◌, ◌⊎◌, ℕ, ℤ, pos, List, [], ◌∷◌, length, Option, Some, None, Result, Ok, Err}
use Rattle.pgp_base.specs.declared.error.Error.{Error}
use Rattle.pgp_base.specs.declared.error.BindError.{BindError}
use Rattle.pgp_base.specs.declared.error.BindError.TheVariants.{Conversion, Serialization}
use Rattle.pgp_base.specs.declared.number.IsNull.{IsNull}
use Rattle.pgp_base.specs.Wire.{uint32}
use Rattle.pgp_base.specs.Calls.{value_of, Puts}
use Rattle.pgp_base.specs.Cause.{Cause, Wants, WantsMemory}
use Rattle.pgp_base.specs.Held.{Held, ◌⊕◌, Leaves}
use Rattle.pgp_frontend.specs.ClientMessage.{ClientMessage, Bind}
use Rattle.pgp_frontend.specs.Payload.{Text, bytes_of, cause, parts_cause}
use Rattle.pgp_frontend.specs.Given.{before_values}
use denote.Ref.{MutBor}

-- what a value is bound to: a portal and a statement, by their names; and the formats of the results
pub record Target : Type 0 where
  pub portal : List ℕ
  pub statement : List ℕ
  pub results : List ℤ

-- the unnamed portal and statement, for results in text
abbrev pub unnamed : Target
unnamed = record { portal = []; statement = []; results = [] }

-- the message that binds a value, in binary, to the one parameter of the statement
abbrev pub one_bound : Target → Option (List ℕ) → ClientMessage
one_bound to v = Bind to.portal to.statement (pos 1 ∷ []) (v ∷ []) to.results

-- the first cause of the names, which stand before the value
abbrev pub names_cause : Target → Cause
names_cause to = parts_cause (Text to.portal ∷ Text to.statement ∷ [])

-- The serializer, which began as `f`, was called once, after the place of the value's length, and left as `last`.
module _ {F E B K : Type 0} (held : B → Held K) (step : F → ℕ → MutBor B → Result IsNull E → MutBor B → F → Type 0) (to : Target) (f last : F) (old : Held K) where
  abbrev pub PutsOne : Result IsNull E → List ℕ → Type 0
  PutsOne answer bytes = Puts held step (before_values old to.portal to.statement (pos 1 ∷ []) ⊕ uint32 0) f 0 answer bytes last

  -- the message of the value that it made stands after the old bytes, and has no cause
  pub record OneWritten (new : Held K) : Type 0 where
    pub null : IsNull
    pub bytes : List ℕ
    pub put : PutsOne (Ok null) bytes
    pub none : cause (one_bound to (value_of null bytes)) ≡ None
    pub appended : new ≡ old ⊕ bytes_of (one_bound to (value_of null bytes))

  -- the message of the value that it made has this cause
  pub record OneTooLong (e : Error) : Type 0 where
    pub null : IsNull
    pub bytes : List ℕ
    pub put : PutsOne (Ok null) bytes
    pub some : cause (one_bound to (value_of null bytes)) ≡ Some e

  -- the names have a cause, and it wasn't called
  abbrev pub NamesRefused : Error → Type 0
  NamesRefused e = (f ≡ last) × (names_cause to ≡ Some e)

  -- An allocation failed that the message needs: of a null, where it wasn't called; or of the value that it made.
  abbrev pub OneWants : (Held K → ℕ → Type 0) → Type 0
  OneWants lacks = ((f ≡ last) × Wants lacks old (length (bytes_of (one_bound to None))))
      ⊎ ((null : IsNull) × (bytes : List ℕ) × PutsOne (Ok null) bytes × Wants lacks old (length (bytes_of (one_bound to (value_of null bytes)))))

  -- why there is no message: it refused, after names that have no cause; or for lack of memory, for the cause of the
  -- names, or for that of the message
  abbrev pub OneRefused : (Held K → ℕ → Type 0) → BindError E → Type 0
  OneRefused lacks (Conversion e) = (bytes : List ℕ) × PutsOne (Err e) bytes × (names_cause to ≡ None)
  OneRefused lacks (Serialization e) = WantsMemory (OneWants lacks) e ⊎ (NamesRefused e ⊎ OneTooLong e)

  abbrev pub OneBinds : (Held K → ℕ → Type 0) → Held K → Result (Unit {0}) (BindError E) → Type 0
  OneBinds lacks new (Ok done) = OneWritten new
  OneBinds lacks new (Err e) = OneRefused lacks e × Leaves old new

-- the same for the unnamed statement, with the serializer's last state
pub record BindsOne {F E B K : Type 0} (held : B → Held K) (step : F → ℕ → MutBor B → Result IsNull E → MutBor B → F → Type 0) (f : F) (old : Held K) (lacks : Held K → ℕ → Type 0) (new : Held K) (result : Result (Unit {0}) (BindError E)) : Type 0 where
  pub last : F
  pub binds : OneBinds held step unnamed f last old lacks new result
