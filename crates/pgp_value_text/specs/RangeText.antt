-- The texts of ranges and multiranges, whose bounds have texts.
-- PostgreSQL manual, "Range Types", "Input/Output of Ranges"; in the server's source `range_deparse` and `multirange_out`.
use Rattle.std.specs.Prelude.{◌≡◌, ℕ, true, List, [], ◌∷◌, ◌++◌, codes, Option, Some, None}
use Rattle.pgp_base.specs.Walk.{Walk}
use Rattle.pgp_types.specs.Range.{Range, Side, between, empty, range}
use Rattle.pgp_types.specs.declared.range.RangeBound.TheVariants.{Inclusive, Exclusive, Unbounded}
use Rattle.pgp_values.specs.declared.formats.BinaryFormat.{BinaryFormat}
use Rattle.pgp_values.specs.declared.formats.BinaryFormat.TheVariants.{Multirange, Range as RangeFormat}
use Rattle.pgp_values.specs.Formats.{formats}
use Rattle.pgp_values.specs.FormatTable.{format_in}
use Rattle.pgp_values.specs.Multirange.{multirange}
use Rattle.pgp_value_text.specs.Parts.{ShowsList}
use Rattle.pgp_value_text.specs.Quoting.{quoted}
use Rattle.pgp_value_text.specs.ValueText.{IsPlainText, IsShown, OfType, Shows}

-- a bound that has a text; a null, which no server sends, has none
abbrev pub ShowsBound : ℕ → Option (List ℕ) → List ℕ → Type 0
ShowsBound type_oid None text = ⊥
ShowsBound type_oid (Some bytes) text = (shown : List ℕ) × IsPlainText type_oid bytes shown × (text ≡ quoted true shown)

-- nothing where there is no bound
abbrev pub ShowsSide : ℕ → Side → List ℕ → Type 0
ShowsSide type_oid Unbounded text = text ≡ []
ShowsSide type_oid (Inclusive v) text = ShowsBound type_oid v text
ShowsSide type_oid (Exclusive v) text = ShowsBound type_oid v text

-- a square bracket where the bound belongs to the range
abbrev pub opening : Side → ℕ
opening Unbounded = 40
opening (Inclusive v) = 91
opening (Exclusive v) = 40

abbrev pub closing : Side → ℕ
closing Unbounded = 41
closing (Inclusive v) = 93
closing (Exclusive v) = 41

-- `empty`, `[1,5)`, `(,"2026-11-27 10:20:30"]`, with bounds of this type
abbrev pub ShowsRange : ℕ → Range → List ℕ → Type 0
ShowsRange type_oid empty text = text ≡ codes "empty"
ShowsRange type_oid (between l u) text = (low : List ℕ) × (high : List ℕ) × ShowsSide type_oid l low × ShowsSide type_oid u high
    × (text ≡ opening l ∷ (low ++ 44 ∷ (high ++ closing u ∷ [])))

-- `{[1,5),[7,8)}`
abbrev pub ShowsMultirange : ℕ → Walk (List ℕ) → List ℕ → Type 0
ShowsMultirange type_oid = ShowsList (Shows range (ShowsRange type_oid)) (codes "{") (codes "}")

-- the type of the bounds of a type of ranges; 0, which is no type, for any other
abbrev pub bound_of : Option BinaryFormat → ℕ
bound_of None = 0
bound_of (Some (RangeFormat bound)) = bound
bound_of (Some f) = 0

-- the text of a value that may stand in an array
abbrev pub IsElementBy : BinaryFormat → ℕ → List ℕ → List ℕ → Type 0
IsElementBy (RangeFormat bound) type_oid = Shows range (ShowsRange bound)
IsElementBy (Multirange ranges) type_oid = Shows multirange (ShowsMultirange (bound_of (format_in formats ranges)))
IsElementBy f type_oid = IsShown f type_oid

abbrev pub IsElementText : ℕ → List ℕ → List ℕ → Type 0
IsElementText = OfType IsElementBy
