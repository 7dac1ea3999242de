-- Ranges: empty, or between a lower and an upper bound.
-- PostgreSQL manual, "Range Types"; the layout as a server sends it.
use Rattle.std.specs.Prelude.{◌≡◌, ◌≢◌, ◌⊎◌, ℕ, ◌+◌, List, [], ◌∷◌, ◌++◌, Option, None, Result, Ok, Err, bit_and, ⊤}
use Rattle.pgp_base.specs.declared.error.Error.{Error}
use Rattle.pgp_base.specs.declared.error.Error.TheVariants.{UnexpectedEof, NotDrained, InvalidValueLength}
use Rattle.pgp_base.specs.Cause.{Cause, either, nullable_cause}
use Rattle.pgp_base.specs.Wire.{nullable as nullable_bytes}
use Rattle.pgp_types.specs.declared.range.RangeBound.{RangeBound}
use Rattle.pgp_types.specs.declared.range.RangeBound.TheVariants.{Inclusive, Exclusive, Unbounded}
use Rattle.pgp_types.specs.Format.{Format}
use Rattle.pgp_types.specs.Part.{Part, Begins, NullableSpelled, nullable, ◌then◌}

-- a side of a range: a value or a null that belongs to it or not, or no bound
abbrev pub Side : Type 0
Side = RangeBound (Option (List ℕ))

pub data Range : Type 0 where
  empty : Range
  between : Side → Side → Range

-- the bits of the tag that speak of a side
pub record Bits : Type 0 where
  pub unbounded : ℕ
  pub inclusive : ℕ

abbrev pub lower_bits : Bits
lower_bits = record { unbounded = 8; inclusive = 2 }

abbrev pub upper_bits : Bits
upper_bits = record { unbounded = 16; inclusive = 4 }

-- What stands for a side: nothing where its unbounded bit is set, whatever the other is; otherwise a value after its
-- length, or a null.
abbrev pub SideSpelled : Bits → ℕ → Side → List ℕ → Type 0
SideSpelled bits tag Unbounded front = (bit_and tag bits.unbounded ≢ 0) × (front ≡ [])
SideSpelled bits tag (Inclusive v) front = (bit_and tag bits.unbounded ≡ 0) × (bit_and tag bits.inclusive ≢ 0) × NullableSpelled v front
SideSpelled bits tag (Exclusive v) front = (bit_and tag bits.unbounded ≡ 0) × (bit_and tag bits.inclusive ≡ 0) × NullableSpelled v front

abbrev pub side : Bits → ℕ → Part Side
side bits tag = record {
  Spelled = SideSpelled bits tag;
  Refused = λ bytes e. (bit_and tag bits.unbounded ≡ 0) × (nullable InvalidValueLength).Refused bytes e;
}

-- the lower side, and the upper
abbrev pub sides : ℕ → Part (Side × Side)
sides tag = side lower_bits tag then side upper_bits tag

-- Why what stands after the tag is rejected: bytes after the tag 1; after any other a side, or bytes after both.
abbrev pub TagRefused : ℕ → List ℕ → Error → Type 0
TagRefused tag rest e = ((tag ≡ 1) × (rest ≢ []) × (e ≡ NotDrained))
    ⊎ ((tag ≢ 1) × ((sides tag).Refused rest e ⊎ ((x : Side × Side) × (more : List ℕ) × Begins (sides tag) rest x more × (more ≢ []) × (e ≡ NotDrained))))

-- Only the tag 1 is read as empty; bits of any other that speak of no side are not looked at.
abbrev pub RangeReads : List ℕ → Result Range Error → Type 0
RangeReads bytes (Ok empty) = bytes ≡ 1 ∷ []
RangeReads bytes (Ok (between l u)) = (tag : ℕ) × (rest : List ℕ) × (bytes ≡ tag ∷ rest) × (tag ≢ 1) × (sides tag).Spelled (l, u) rest
RangeReads bytes (Err e) = ((bytes ≡ []) × (e ≡ UnexpectedEof)) ⊎ ((tag : ℕ) × (rest : List ℕ) × (bytes ≡ tag ∷ rest) × TagRefused tag rest e)

-- what is written of a side: its bit, and its bytes
abbrev pub side_bit : Bits → Side → ℕ
side_bit bits Unbounded = bits.unbounded
side_bit bits (Inclusive v) = bits.inclusive
side_bit bits (Exclusive v) = 0

abbrev pub side_bytes : Side → List ℕ
side_bytes Unbounded = []
side_bytes (Inclusive v) = nullable_bytes v
side_bytes (Exclusive v) = nullable_bytes v

abbrev pub side_cause : Side → Cause
side_cause Unbounded = None
side_cause (Inclusive v) = nullable_cause v
side_cause (Exclusive v) = nullable_cause v

abbrev pub range_bytes : Range → List ℕ
range_bytes empty = 1 ∷ []
range_bytes (between l u) = (side_bit lower_bits l + side_bit upper_bits u) ∷ side_bytes l ++ side_bytes u

abbrev pub range_cause : Range → Cause
range_cause empty = None
range_cause (between l u) = either (side_cause l) (side_cause u)

abbrev pub range : Format Range Range
range = record { IsValue = λ _. ⊤; written = range_bytes; cause = range_cause; seen = λ r. r; Reads = RangeReads }
