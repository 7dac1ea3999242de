-- A table of types and their codecs, by rising numbers.
use Rattle.std.specs.Prelude.{◌≡◌, ℕ, ◌+◌, Bool, true, ◌&&◌, nat_le, nat_eq, List, [], ◌∷◌, Option, Some, None, if◌then◌else◌}
use Rattle.pgp_values.specs.declared.formats.BinaryFormat.{BinaryFormat}

abbrev pub Entry : Type 0
Entry = ℕ × BinaryFormat

-- the codec of a type, or none
unfoldable pub format_in : List Entry → ℕ → Option BinaryFormat
format_in [] oid = None
format_in (f ∷ fs) oid = if nat_eq f.0 oid then Some f.1 else format_in fs oid

-- each number is at least n, and more than the one before
unfoldable pub rises : ℕ → List Entry → Bool
rises n [] = true
rises n (f ∷ fs) = nat_le n f.0 && rises (f.0 + 1) fs

abbrev pub IsRising : List Entry → Type 0
IsRising table = rises 0 table ≡ true
