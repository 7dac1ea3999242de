-- Private: reading a range from the left, as a function, and its values after a view. what it returns is what its grammar says.
use Rattle.std.specs.Prelude.{ℕ, List, [], ◌∷◌, Option, Result, Ok, Err, bit_and, nat_eq, if◌then◌else◌}
use Rattle.std.specs.Borrow.{Bor}
use Rattle.pgp_base.specs.declared.error.Error.{Error}
use Rattle.pgp_base.specs.declared.error.Error.TheVariants.{UnexpectedEof, NotDrained, InvalidValueLength}
use Rattle.pgp_types.specs.declared.range.RangeBound.{RangeBound}
use Rattle.pgp_types.specs.declared.range.RangeBound.TheVariants.{Inclusive, Exclusive, Unbounded}
use Rattle.pgp_types.specs.declared.range.Range.{Range as Seen}
use Rattle.pgp_types.specs.declared.range.Range.TheVariants.{Empty, Nonempty}
use Rattle.pgp_types.specs.PartReading.{Reader, and_then, then_at, nullable_at}
use Rattle.pgp_types.specs.Part.{shown}
use Rattle.pgp_types.specs.Range.{Side, Range, empty, between, Bits, lower_bits, upper_bits}

-- the bytes that are borrowed for a side, and for a range
abbrev pub shown_side : RangeBound (Option (Bor (List ℕ))) → Side
shown_side Unbounded = Unbounded
shown_side (Inclusive v) = Inclusive (shown v)
shown_side (Exclusive v) = Exclusive (shown v)

abbrev pub shown_range : Seen → Range
shown_range Empty = empty
shown_range (Nonempty l u) = between (shown_side l) (shown_side u)

abbrev pub bounded : Bits → ℕ → Option (List ℕ) → List ℕ → Result (Side × List ℕ) Error
bounded bits tag v rest = if nat_eq (bit_and tag bits.inclusive) 0 then Ok (Exclusive v, rest) else Ok (Inclusive v, rest)

unfoldable pub side_at : Bits → ℕ → Reader Side
side_at bits tag bytes = if nat_eq (bit_and tag bits.unbounded) 0 then and_then (nullable_at InvalidValueLength bytes) (bounded bits tag) else Ok (Unbounded, bytes)

abbrev pub empty_at : List ℕ → Result Range Error
empty_at [] = Ok empty
empty_at (b ∷ rest) = Err NotDrained

abbrev pub between_at : Side × Side → List ℕ → Result Range Error
between_at x [] = Ok (between x.0 x.1)
between_at x (b ∷ rest) = Err NotDrained

abbrev pub tagged_at : ℕ → List ℕ → Result Range Error
tagged_at tag rest = if nat_eq tag 1 then empty_at rest else and_then (then_at (side_at lower_bits tag) (side_at upper_bits tag) rest) between_at

unfoldable pub range_at : List ℕ → Result Range Error
range_at [] = Err UnexpectedEof
range_at (tag ∷ rest) = tagged_at tag rest
