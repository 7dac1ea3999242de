-- What the writers over iterators come to.
use Rattle.std.specs.Prelude.{◌≡◌, ◌⊎◌, ℕ, length, List, [], ◌∷◌, ◌++◌, Option, Some, None, Result, Ok, Err}
use Rattle.pgp_base.specs.declared.error.Error.{Error}
use Rattle.pgp_base.specs.declared.error.Error.TheVariants.{OutOfMemory}
use Rattle.pgp_base.specs.Calls.{SoFar}
use Rattle.pgp_base.specs.Cause.{Wants}
use Rattle.pgp_base.specs.Held.{Held, ◌⊕◌, Leaves}
use Rattle.pgp_types.specs.Format.{Format}

-- `came xs next`: the iterator's calls gave xs and then `next`. `value` is the value that items make.
module _ {A V R : Type 0} (received : List A → Option A → Type 0) (f : Format V R) (value : List A → V) where
  -- the bytes of the value of all items stand after the old ones
  pub record Whole {K : Type 0} (old new : Held K) : Type 0 where
    pub items : List A
    pub all : received items None
    pub fits : f.cause (value items) ≡ None
    pub appended : new ≡ old ⊕ f.written (value items)

  -- the value of the items up to the last that came has a cause, and that of those before it has none
  pub record Stops (e : Error) : Type 0 where
    pub before : List A
    pub last : A
    pub reached : received before (Some last)
    pub fits : f.cause (value before) ≡ None
    pub passes : f.cause (value (before ++ last ∷ [])) ≡ Some e

  -- an allocation failed that the value of the items so far needs
  abbrev pub WantsValue : {K : Type 0} → (Held K → ℕ → Type 0) → Held K → Error → Type 0
  WantsValue lacks old e = (e ≡ OutOfMemory) × ((items : List A) × SoFar received items × Wants lacks old (length (f.written (value items))))

  -- It writes the value of all items; or it leaves the bytes, and is refused for lack of memory or for the first cause.
  abbrev pub WritesAll : {K : Type 0} → (Held K → ℕ → Type 0) → Held K → Result (Unit {0}) Error → Held K → Type 0
  WritesAll lacks old (Ok done) new = Whole old new
  WritesAll lacks old (Err e) new = (WantsValue lacks old e ⊎ Stops e) × Leaves old new
