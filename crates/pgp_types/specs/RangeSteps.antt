-- Private: what the steps of the writer of a range are reported.
use Rattle.std.specs.Prelude.{◌≡◌, ℕ, List, [], length}
use Rattle.pgp_base.specs.declared.number.IsNull.{IsNull}
use Rattle.pgp_base.specs.declared.number.IsNull.TheVariants.{Yes}
use Rattle.pgp_base.specs.Held.{Held, ◌⊕◌}
use Rattle.pgp_types.specs.declared.range.RangeBound.{RangeBound}
use Rattle.pgp_types.specs.RangeWriting.{IsNullBound}

-- p stands after what was held, from `base` on; a null has no bytes
pub record IsValueBehind {K : Type 0} (a : Held K) (p : List ℕ) (base : ℕ) (null : IsNull) (here : Held K) : Type 0 where
  pub stands : here ≡ a ⊕ p
  pub place : base ≡ length a.bytes
  pub none : null ≡ Yes → p ≡ []

-- the same of a side
pub record IsSideBehind {K : Type 0} (a : Held K) (p : List ℕ) (base : ℕ) (answer : RangeBound IsNull) (here : Held K) : Type 0 where
  pub stands : here ≡ a ⊕ p
  pub place : base ≡ length a.bytes
  pub none : IsNullBound answer → p ≡ []
