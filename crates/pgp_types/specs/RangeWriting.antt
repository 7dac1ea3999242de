-- What the writer of a range comes to, which calls a closure for each side.
use Rattle.std.specs.Prelude.{◌≡◌, ◌⊎◌, ℕ, ◌+◌, List, [], ◌∷◌, ◌++◌, length, drop, Some, None, Result, Ok, Err, ⊤}
use Rattle.pgp_base.specs.declared.number.IsNull.{IsNull}
use Rattle.pgp_base.specs.declared.number.IsNull.TheVariants.{Yes}
use Rattle.pgp_base.specs.declared.error.Error.{Error}
use Rattle.pgp_base.specs.declared.error.BindError.{BindError}
use Rattle.pgp_base.specs.declared.error.BindError.TheVariants.{Conversion, Serialization}
use Rattle.pgp_base.specs.Calls.{Appends, value_of}
use Rattle.pgp_base.specs.Cause.{Wants, WantsMemory}
use Rattle.pgp_base.specs.Held.{Held, ◌⊕◌, Leaves, IsFrontOf}
use Rattle.pgp_types.specs.declared.range.RangeBound.{RangeBound}
use Rattle.pgp_types.specs.declared.range.RangeBound.TheVariants.{Inclusive, Exclusive, Unbounded}
use Rattle.pgp_types.specs.Range.{Side, between, side_bytes, side_cause, range_bytes, range_cause}
use denote.Ref.{MutBor}

-- what a side's closure may do to a buffer: append, and nothing where it returns a null; where it is refused use more of
-- what stands after the bytes
abbrev pub KeepsBound : {E K : Type 0} → Result (RangeBound IsNull) E → Held K → Held K → Type 0
KeepsBound (Ok (Inclusive Yes)) old new = new ≡ old
KeepsBound (Ok (Exclusive Yes)) old new = new ≡ old
KeepsBound (Ok x) old new = (p : List ℕ) × (new ≡ old ⊕ p)
KeepsBound (Err e) old new = IsFrontOf old new

-- the side that a closure's answer makes of the bytes that it appended; of no bound there are none
abbrev pub side_of : RangeBound IsNull → List ℕ → Side
side_of (Inclusive null) bytes = Inclusive (value_of null bytes)
side_of (Exclusive null) bytes = Exclusive (value_of null bytes)
side_of Unbounded bytes = Unbounded

-- how many of them are cut off again: all where there is no bound
abbrev pub cut_of : RangeBound IsNull → List ℕ → ℕ
cut_of Unbounded bytes = length bytes
cut_of answer bytes = 0

-- it returns a null
abbrev pub IsNullBound : RangeBound IsNull → Type 0
IsNullBound (Inclusive Yes) = ⊤
IsNullBound (Exclusive Yes) = ⊤
IsNullBound answer = ⊥

-- p stands after the old bytes; of what stands after p the first n bytes may be others than they were
pub record Extends {K : Type 0} (n : ℕ) (old : Held K) (p : List ℕ) (new : Held K) : Type 0 where
  pub bytes : new.bytes ≡ old.bytes ++ p
  pub behind : drop n new.behind ≡ drop (length p + n) old.behind
  pub kept : new.kept ≡ old.kept

module _ {F E B K : Type 0} (held : B → Held K) (pre : F → MutBor B → Type 0) (post : F → MutBor B → Result (RangeBound IsNull) E → MutBor B → Type 0) where
  -- the law that a side's closure owes
  abbrev pub OwesBound : F → Type 0
  OwesBound f = (b b' : MutBor B) (r : Result (RangeBound IsNull) E) → pre f b → post f b r b' → KeepsBound r (held b.now) (held b'.now)

module _ {F E B K : Type 0} (held : B → Held K) (post : F → MutBor B → Result (RangeBound IsNull) E → MutBor B → Type 0) where
  -- a call of f made the side, and n bytes are cut off again
  pub record Makes (here : Held K) (f : F) (s : Side) (n : ℕ) : Type 0 where
    pub answer : RangeBound IsNull
    pub bytes : List ℕ
    pub put : Appends held post here f (Ok answer) bytes
    pub side : s ≡ side_of answer bytes
    pub fits : side_cause s ≡ None
    pub cut : n ≡ cut_of answer bytes

  -- Why a side was refused: f refused; or the bytes of the side that it made pass the length's field, or there is no
  -- memory for them.
  abbrev pub SideStops : (Held K → ℕ → Type 0) → Held K → F → BindError E → Type 0
  SideStops lacks here f (Conversion e) = (p : List ℕ) × Appends held post here f (Err e) p
  SideStops lacks here f (Serialization e) = (answer : RangeBound IsNull) × (p : List ℕ) × Appends held post here f (Ok answer) p
      × (WantsMemory (Wants lacks here (length (side_bytes (side_of answer p)))) e ⊎ (side_cause (side_of answer p) ≡ Some e))

-- The closures f and g, of the lower side and the upper, and what the buffer held before the call.
module _ {F G E B K : Type 0} (held : B → Held K) (post_f : F → MutBor B → Result (RangeBound IsNull) E → MutBor B → Type 0) (post_g : G → MutBor B → Result (RangeBound IsNull) E → MutBor B → Type 0) (f : F) (g : G) (old : Held K) where
  -- f was called after the tag, and made the lower side, whose bytes stand there then
  pub record LowerMade (lower : Side) (n : ℕ) (mid : Held K) : Type 0 where
    pub made : Makes held post_f (old ⊕ 0 ∷ []) f lower n
    pub stands : Extends n (old ⊕ 0 ∷ []) (side_bytes lower) mid

  -- g was called after that, and made the upper side
  pub record WritesRange (new : Held K) : Type 0 where
    pub lower : Side
    pub upper : Side
    pub lower_cut : ℕ
    pub upper_cut : ℕ
    pub mid : Held K
    pub first : LowerMade lower lower_cut mid
    pub second : Makes held post_g mid g upper upper_cut
    pub fits : range_cause (between lower upper) ≡ None
    pub appended : Extends (lower_cut + upper_cut) old (range_bytes (between lower upper)) new

  -- there was no memory for the tag, or the lower side was refused, or after it the upper
  abbrev pub RangeStops : (Held K → ℕ → Type 0) → BindError E → Type 0
  RangeStops lacks e = ((why : Error) × (e ≡ Serialization why) × WantsMemory (Wants lacks old 1) why) ⊎ (SideStops held post_f lacks (old ⊕ 0 ∷ []) f e
      ⊎ ((lower : Side) × (n : ℕ) × (mid : Held K) × LowerMade lower n mid × SideStops held post_g lacks mid g e))

  abbrev pub RangeWritten : (Held K → ℕ → Type 0) → Held K → Result (Unit {0}) (BindError E) → Type 0
  RangeWritten lacks new (Ok done) = WritesRange new
  RangeWritten lacks new (Err e) = RangeStops lacks e × Leaves old new
