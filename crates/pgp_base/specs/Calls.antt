-- What is said of the closures and the iterators that a writer is handed.
use Rattle.std.specs.Prelude.{◌≡◌, ◌⊎◌, ℕ, List, [], ◌∷◌, ◌++◌, length, Result, Ok, Err, Option, Some, None, option_to_list}
use Rattle.std.specs.Iterator.{YieldsThen}
use Rattle.pgp_base.specs.Wire.{uint32}
use Rattle.pgp_base.specs.Cause.{length_cause, nullable_cause, Wants, WantsMemory}
use Rattle.pgp_base.specs.Held.{Held, ◌⊕◌, IsFrontOf}
use Rattle.pgp_base.specs.declared.number.IsNull.{IsNull}
use Rattle.pgp_base.specs.declared.number.IsNull.TheVariants.{Yes, No}
use Rattle.pgp_base.specs.declared.error.BindError.{BindError}
use Rattle.pgp_base.specs.declared.error.BindError.TheVariants.{Conversion, Serialization}
use denote.Ref.{MutBor}

-- what a closure may do to a buffer: append, and where it is refused use more of what stands after the bytes
abbrev pub Keeps : {X E K : Type 0} → Result X E → Held K → Held K → Type 0
Keeps (Ok x) old new = (p : List ℕ) × (new ≡ old ⊕ p)
Keeps (Err e) old new = IsFrontOf old new

-- the same, and where it returns a null it appends nothing
abbrev pub KeepsValue : {E K : Type 0} → Result IsNull E → Held K → Held K → Type 0
KeepsValue (Ok Yes) old new = new ≡ old
KeepsValue (Ok No) old new = (p : List ℕ) × (new ≡ old ⊕ p)
KeepsValue (Err e) old new = IsFrontOf old new

-- The law that a closure owes at each call. `held` says what a buffer holds.

module _ {F X E B K : Type 0} (held : B → Held K) (pre : F → MutBor B → Type 0) (post : F → MutBor B → Result X E → MutBor B → Type 0) where
  abbrev pub KeepsFront : F → Type 0
  KeepsFront f = (b b' : MutBor B) (r : Result X E) → pre f b → post f b r b' → Keeps r (held b.now) (held b'.now)

module _ {F E B K : Type 0} (held : B → Held K) (pre : F → MutBor B → Type 0) (post : F → MutBor B → Result IsNull E → MutBor B → Type 0) where
  abbrev pub OwesValue : F → Type 0
  OwesValue f = (b b' : MutBor B) (r : Result IsNull E) → pre f b → post f b r b' → KeepsValue r (held b.now) (held b'.now)

module _ {F T X E B K : Type 0} (held : B → Held K) (pre : F → T → MutBor B → Type 0) (step : F → T → MutBor B → Result X E → MutBor B → F → Type 0) where
  abbrev pub KeepsFronts : Type 0
  KeepsFronts = (f f' : F) (x : T) (b b' : MutBor B) (r : Result X E) → pre f x b → step f x b r b' f' → Keeps r (held b.now) (held b'.now)

module _ {F T E B K : Type 0} (held : B → Held K) (pre : F → T → MutBor B → Type 0) (step : F → T → MutBor B → Result IsNull E → MutBor B → F → Type 0) where
  abbrev pub OwesValues : Type 0
  OwesValues = (f f' : F) (x : T) (b b' : MutBor B) (r : Result IsNull E) → pre f x b → step f x b r b' f' → KeepsValue r (held b.now) (held b'.now)

-- what a call did to a buffer: it appended p; or it was refused, with p after the bytes that stood there
abbrev pub Adds : {X E K : Type 0} → Result X E → List ℕ → Held K → Held K → Type 0
Adds (Ok x) p old new = new ≡ old ⊕ p
Adds (Err e) p old new = (new.bytes ≡ old.bytes ++ p) × (new.kept ≡ old.kept)

-- What a call of a closure did. `here` is what the buffer held at the call.

module _ {F T X E B K : Type 0} (held : B → Held K) (step : F → T → MutBor B → Result X E → MutBor B → F → Type 0) where
  -- a call of f at x answered r, put p after that, and left f'
  pub record Puts (here : Held K) (f : F) (x : T) (r : Result X E) (p : List ℕ) (f' : F) : Type 0 where
    pub before : MutBor B
    pub after : MutBor B
    pub called : step f x before r after f'
    pub stood : held before.now ≡ here
    pub appended : Adds r p here (held after.now)

-- a closure that is called once, with no item: as one that is called at tt
abbrev pub once : {F B R : Type 0} → (F → B → R → B → Type 0) → F → Unit {0} → B → R → B → F → Type 0
once post f x b r b' f' = post f b r b'

module _ {F X E B K : Type 0} (held : B → Held K) (post : F → MutBor B → Result X E → MutBor B → Type 0) where
  -- its call answered r and put p after `here`
  abbrev pub Appends : Held K → F → Result X E → List ℕ → Type 0
  Appends here f r p = Puts held (once post) here f tt r p f

-- what a serializer's answer makes of the bytes that it appended
abbrev pub value_of : IsNull → List ℕ → Option (List ℕ)
value_of Yes bytes = None
value_of No bytes = Some bytes

-- whether a value is null
abbrev pub null_of : Option (List ℕ) → IsNull
null_of None = Yes
null_of (Some bytes) = No

-- what stands in the place of such a value's length
abbrev pub length_of : IsNull → List ℕ → List ℕ
length_of Yes bytes = uint32 4294967295
length_of No bytes = uint32 (length bytes)

module _ {F T E B K : Type 0} (held : B → Held K) (step : F → T → MutBor B → Result IsNull E → MutBor B → F → Type 0) where
  -- a call of f at x, after the place of the value's length, gave the value v, and left f'
  pub record Gives (here : Held K) (f : F) (x : T) (v : Option (List ℕ)) (f' : F) : Type 0 where
    pub null : IsNull
    pub bytes : List ℕ
    pub put : Puts held step (here ⊕ uint32 0) f x (Ok null) bytes f'
    pub value : v ≡ value_of null bytes
    pub fits : nullable_cause v ≡ None

  -- Why the value of x was rejected: the serializer rejected, or its bytes pass the length's field. Or the four
  -- bytes of its length don't fit, and it wasn't called.
  abbrev pub ValueRefused : (Held K → ℕ → Type 0) → Held K → F → T → BindError E → F → Type 0
  ValueRefused lacks here f x (Conversion e) f' = (p : List ℕ) × Puts held step (here ⊕ uint32 0) f x (Err e) p f'
  ValueRefused lacks here f x (Serialization e) f' = (WantsMemory (Wants lacks here 4) e × (f' ≡ f)) ⊎ ((p : List ℕ) × Puts held step (here ⊕ uint32 0) f x (Ok No) p f' × (length_cause (length p) ≡ Some e))

module _ {F T E B K : Type 0} (held : B → Held K) (step : F → T → MutBor B → Result (Unit {0}) E → MutBor B → F → Type 0) where
  -- a call of f at x succeeded with p after that
  abbrev pub Wrote : Held K → F → T → List ℕ → F → Type 0
  Wrote here f x p f' = Puts held step here f x (Ok tt) p f'

-- From f, and with `here` in the buffer, calls made each of vs of each of xs, in order, each after
-- the spellings of those before it, and left t.
module _ {F T V K : Type 0} (makes : Held K → F → T → V → F → Type 0) (spelling : V → List ℕ) where
  abbrev pub Runs : Held K → F → List T → List V → F → Type 0
  Runs here f [] [] t = f ≡ t
  Runs here f [] (v ∷ vs) t = ⊥
  Runs here f (x ∷ xs) [] t = ⊥
  Runs here f (x ∷ xs) (v ∷ vs) t = (u : F) × makes here f x v u × Runs (here ⊕ spelling v) u xs vs t

-- an iterator of a value, whose calls gave xs and then `next`
pub record Yielded {U S A : Type 0} (into_iter_gives : U → S → Type 0) (next_gives : S → Option A → S → Type 0) (source : U) (xs : List A) (next : Option A) : Type 0 where
  pub iterator : S
  pub from : into_iter_gives source iterator
  pub left : S
  pub received : YieldsThen next_gives iterator xs next left

-- `given before next`: an iterator's calls gave `before` and then `next`. xs are all items that these calls gave.
pub record Asked {A : Type 0} (given : List A → Option A → Type 0) (xs : List A) : Type 0 where
  pub before : List A
  pub next : Option A
  pub received : given before next
  pub are : xs ≡ before ++ option_to_list next

-- xs are the items that came so far: none was asked for, or these
abbrev pub SoFar : {A : Type 0} → (List A → Option A → Type 0) → List A → Type 0
SoFar given xs = (xs ≡ []) ⊎ Asked given xs
