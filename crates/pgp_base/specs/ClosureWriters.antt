-- What the writers over closures come to.
use Rattle.std.specs.Prelude.{◌≡◌, ◌⊎◌, ℕ, ◌+◌, ◌<◌, List, length, Result, Ok, Err, Option, Some, None}
use Rattle.std.specs.List.{flat_map}
use Rattle.pgp_base.specs.Calls.{Puts, Appends, Gives, ValueRefused, Wrote, Runs, Yielded, once}
use Rattle.pgp_base.specs.Wire.{uint16, uint32, nullable, counted}
use Rattle.pgp_base.specs.Cause.{length_cause, count_cause, Wants, WantsMemory}
use Rattle.pgp_base.specs.Held.{Held, ◌⊕◌}
use Rattle.pgp_base.specs.declared.number.IsNull.{IsNull}
use Rattle.pgp_base.specs.declared.error.Error.TheVariants.{OutOfMemory, TooLarge}
use Rattle.pgp_base.specs.declared.error.BindError.{BindError}
use Rattle.pgp_base.specs.declared.error.BindError.TheVariants.{Conversion, Serialization}
use denote.Ref.{MutBor}

-- `old` is what the buffer held before the call.

module _ {F E B K : Type 0} (held : B → Held K) (post : F → MutBor B → Result (Unit {0}) E → MutBor B → Type 0) where
  -- the body that f wrote after the place of its length
  pub record WritesBody (f : F) (old new : Held K) : Type 0 where
    pub body : List ℕ
    pub put : Appends held post (old ⊕ uint32 0) f (Ok tt) body
    pub fits : length_cause (length body + 4) ≡ None
    pub appended : new ≡ old ⊕ uint32 (length body + 4) ⊕ body

  -- why a body was rejected: f rejected, or its bytes pass the length's field, or the four bytes of its length don't
  -- fit
  abbrev pub BodyRefused : (Held K → ℕ → Type 0) → F → Held K → BindError E → Type 0
  BodyRefused lacks f old (Conversion e) = (p : List ℕ) × Appends held post (old ⊕ uint32 0) f (Err e) p
  BodyRefused lacks f old (Serialization e) = WantsMemory (Wants lacks old 4) e ⊎ ((p : List ℕ) × Appends held post (old ⊕ uint32 0) f (Ok tt) p × (length_cause (length p + 4) ≡ Some e))

module _ {F E B K : Type 0} (held : B → Held K) (post : F → MutBor B → Result IsNull E → MutBor B → Type 0) where
  -- the value that f made after the place of its length
  abbrev pub WritesValue : F → Held K → Held K → Type 0
  WritesValue f old new = (v : Option (List ℕ)) × Gives held (once post) old f tt v f × (new ≡ old ⊕ nullable v)

  -- why it was rejected
  abbrev pub NullableRefused : (Held K → ℕ → Type 0) → F → Held K → BindError E → Type 0
  NullableRefused lacks f old e = ValueRefused held (once post) lacks old f tt e f

module _ {F T E B K : Type 0} (held : B → Held K) (step : F → T → MutBor B → Result (Unit {0}) E → MutBor B → F → Type 0) {U S : Type 0} (into_iter_gives : U → S → Type 0) (next_gives : S → Option T → S → Type 0) where
  -- the items that came, each written after the place of the count and the items before it, which left `last`
  pub record WritesCounted (source : U) (f last : F) (old new : Held K) : Type 0 where
    pub xs : List T
    pub received : Yielded into_iter_gives next_gives source xs None
    pub parts : List (List ℕ)
    pub runs : Runs (Wrote held step) (λ p. p) (old ⊕ uint16 0) f xs parts last
    pub fits : count_cause (length xs) ≡ None
    pub appended : new ≡ old ⊕ counted (λ p. p) parts

  -- After items that were written, one came past the count's field, and the serializer wasn't called at
  -- it; or the serializer rejected one.
  pub record CountedStops (source : U) (f last : F) (old : Held K) (e : BindError E) : Type 0 where
    pub xs : List T
    pub x : T
    pub received : Yielded into_iter_gives next_gives source xs (Some x)
    pub parts : List (List ℕ)
    pub at : F
    pub runs : Runs (Wrote held step) (λ p. p) (old ⊕ uint16 0) f xs parts at
    pub cause : ((length xs ≡ 65535) × (e ≡ Serialization TooLarge) × (last ≡ at)) ⊎ ((length xs < 65535) × ((p : List ℕ) × (why : E) × (e ≡ Conversion why) × Puts held step (old ⊕ uint16 0 ⊕ flat_map (λ p. p) parts) at x (Err why) p last))

  -- why the items were rejected: there; or the two bytes of the count don't fit, and the serializer wasn't
  -- called
  abbrev pub CountedRefused : (Held K → ℕ → Type 0) → U → F → F → Held K → BindError E → Type 0
  CountedRefused lacks source f last old e = ((e ≡ Serialization OutOfMemory) × Wants lacks old 2 × (last ≡ f)) ⊎ CountedStops source f last old e
