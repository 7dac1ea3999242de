-- How a table of RFC 3454 is read.
use Rattle.std.specs.Prelude.{◌≡◌, ℕ, ◌+◌, Bool, true, false, ◌&&◌, ◌||◌, nat_le, List, [], ◌∷◌}

-- an inclusive range of code points
abbrev pub Range : Type 0
Range = ℕ × ℕ

-- the table lists the code point
unfoldable pub in_table : List Range → ℕ → Bool
in_table [] c = false
in_table (r ∷ rs) c = (nat_le r.0 c && nat_le c r.1) || in_table rs c

-- each range has a member, the first from n on, and each other after the one before
unfoldable pub ranges_rise : ℕ → List Range → Bool
ranges_rise n [] = true
ranges_rise n (r ∷ rs) = (nat_le n r.0 && nat_le r.0 r.1) && ranges_rise (r.1 + 1) rs

abbrev pub IsRising : List Range → Type 0
IsRising table = ranges_rise 0 table ≡ true
