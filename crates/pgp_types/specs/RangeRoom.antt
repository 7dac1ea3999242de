-- Which room a range takes while it is written.
use Rattle.std.specs.Prelude.{◌⊎◌, ℕ, ◌+◌, List, [], ◌∷◌, length, Result, Ok}
use Rattle.pgp_base.specs.declared.number.IsNull.{IsNull}
use Rattle.pgp_base.specs.Calls.{Appends}
use Rattle.pgp_base.specs.Held.{Held, ◌⊕◌}
use Rattle.pgp_types.specs.declared.range.RangeBound.{RangeBound}
use Rattle.pgp_types.specs.Range.{Side, between, side_bytes, range_bytes}
use Rattle.pgp_types.specs.RangeWriting.{side_of, LowerMade}
use denote.Ref.{MutBor}

-- A growth by the tag was refused; or by the tag and the lower side that f made; or by the range of both sides that f and g made.
module _ {F G E B K : Type 0} (held : B → Held K) (post_f : F → MutBor B → Result (RangeBound IsNull) E → MutBor B → Type 0) (post_g : G → MutBor B → Result (RangeBound IsNull) E → MutBor B → Type 0) (f : F) (g : G) (old : Held K) (lacks : Held K → ℕ → Type 0) where
  abbrev pub LacksRange : Type 0
  LacksRange = lacks old 1
      ⊎ (((answer : RangeBound IsNull) × (p : List ℕ) × Appends held post_f (old ⊕ 0 ∷ []) f (Ok answer) p × lacks old (1 + length (side_bytes (side_of answer p))))
      ⊎ ((lower : Side) × (n : ℕ) × (mid : Held K) × LowerMade held post_f post_g f g old lower n mid
      × ((answer : RangeBound IsNull) × (p : List ℕ) × Appends held post_g mid g (Ok answer) p × lacks old (length (range_bytes (between lower (side_of answer p)))))))
