-- The parts that values are made of, as grammars: the bytes that spell a part, and why bytes begin with none, in the
-- order in which what it is made of is read.
use Rattle.std.specs.Prelude.{◌≡◌, ◌⊎◌, ℕ, negsuc, ◌<◌, List, ◌++◌, length, Option, Some, None}
use Rattle.std.specs.Prelude.{FitsSigned}
use Rattle.std.specs.Int.{w32}
use Rattle.pgp_base.specs.declared.error.Error.{Error}
use Rattle.pgp_base.specs.declared.error.Error.TheVariants.{UnexpectedEof}
use Rattle.pgp_base.specs.Cause.{length_cause}
use Rattle.pgp_base.specs.Wire.{int32, uint32}
use Rattle.pgp_base.specs.Items.{CountedItems}
use Rattle.pgp_base.specs.Walk.{Walk}
pub use Rattle.pgp_base.specs.Lent.{shown}

pub record Part (V : Type 0) : Type 1 where
  pub Spelled : V → List ℕ → Type 0
  pub Refused : List ℕ → Error → Type 0

-- the bytes begin with the part, and the rest stands after it
pub record Begins {V : Type 0} (p : Part V) (bytes : List ℕ) (x : V) (rest : List ℕ) : Type 0 where
  pub front : List ℕ
  pub whole : bytes ≡ front ++ rest
  pub spelled : p.Spelled x front

-- so many bytes, which spell a value
abbrev pub fixed_part : {V : Type 0} → (V → Type 0) → (V → List ℕ) → ℕ → Part V
fixed_part IsValue written size = record {
  Spelled = λ v front. IsValue v × (front ≡ written v);
  Refused = λ bytes e. (length bytes < size) × (e ≡ UnexpectedEof);
}

-- a negative number stands at the front
pub record IsNegative (bytes : List ℕ) : Type 0 where
  pub below : ℕ
  pub fits : FitsSigned w32 (negsuc below)
  pub rest : List ℕ
  pub whole : bytes ≡ int32 (negsuc below) ++ rest

-- a length stands at the front that announces more bytes than there are
pub record IsShort (bytes : List ℕ) : Type 0 where
  pub len : ℕ
  pub fits : length_cause len ≡ None
  pub rest : List ℕ
  pub whole : bytes ≡ uint32 len ++ rest
  pub short : length rest < len

-- a number with no sign: the least that are rejected are four bytes missing; a negative one is rejected with
-- `negative`
abbrev pub NaturalRefused : Error → List ℕ → Error → Type 0
NaturalRefused negative bytes e = ((length bytes < 4) × (e ≡ UnexpectedEof)) ⊎ (IsNegative bytes × (e ≡ negative))

-- a count or a length: an Int32 that isn't negative
abbrev pub natural : Error → Part ℕ
natural negative = record {
  Spelled = λ n front. (length_cause n ≡ None) × (front ≡ uint32 n);
  Refused = NaturalRefused negative;
}

-- a length, and so many bytes; `wrong` rejects a length that is negative or passes the end
abbrev pub sized : Error → Part (List ℕ)
sized wrong = record {
  Spelled = λ v front. (length_cause (length v) ≡ None) × (front ≡ uint32 (length v) ++ v);
  Refused = λ bytes e. NaturalRefused wrong bytes e ⊎ (IsShort bytes × (e ≡ wrong));
}

-- the same, or any negative length for a null; `past_end` rejects a length that passes the end
abbrev pub NullableSpelled : Option (List ℕ) → List ℕ → Type 0
NullableSpelled None front = (below : ℕ) × FitsSigned w32 (negsuc below) × (front ≡ int32 (negsuc below))
NullableSpelled (Some v) front = (length_cause (length v) ≡ None) × (front ≡ uint32 (length v) ++ v)

abbrev pub nullable : Error → Part (Option (List ℕ))
nullable past_end = record {
  Spelled = NullableSpelled;
  Refused = λ bytes e. ((length bytes < 4) × (e ≡ UnexpectedEof)) ⊎ (IsShort bytes × (e ≡ past_end));
}

-- a part which has to be such a value; any other is rejected with `other`
abbrev pub only : {V : Type 0} → (V → Type 0) → Error → Part V → Part V
only {V} Is other p = record {
  Spelled = λ x front. p.Spelled x front × Is x;
  Refused = λ bytes e. p.Refused bytes e ⊎ ((x : V) × (rest : List ℕ) × Begins p bytes x rest × ¬ (Is x) × (e ≡ other));
}

-- two parts, one after the other
pub record IsBoth {U V : Type 0} (p : Part U) (q : Part V) (x : U × V) (front : List ℕ) : Type 0 where
  pub first : List ℕ
  pub second : List ℕ
  pub whole : front ≡ first ++ second
  pub one : p.Spelled x.0 first
  pub other : q.Spelled x.1 second

infixr 60 ◌then◌
abbrev pub ◌then◌ : {U V : Type 0} → Part U → Part V → Part (U × V)
◌then◌ {U} p q = record {
  Spelled = IsBoth p q;
  Refused = λ bytes e. p.Refused bytes e ⊎ ((x : U) × (rest : List ℕ) × Begins p bytes x rest × q.Refused rest e);
}

-- a walk of n items over all of the bytes
pub record IsWalk {V : Type 0} (item : Part V) (n : ℕ) (bytes : List ℕ) (w : Walk V) : Type 0 where
  pub items : CountedItems (λ place. item.Spelled) item.Refused n bytes w.items w.end
  pub announced : w.announced ≡ Some n

-- a walk that hands out all of these, and ends
abbrev pub finished : {V : Type 0} → List V → Walk V
finished xs = record { items = xs; end = None; announced = Some (length xs) }
