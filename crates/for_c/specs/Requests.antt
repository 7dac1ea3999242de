-- The codes of a request that a server takes.
use Rattle.std.specs.Prelude.{ℕ, ℤ, pos, negsuc, Bool, false, ◌&&◌, ◌||◌, nat_eq, nat_lt, List, length}
use Rattle.std.specs.List.{list_all}

-- what is described or closed: a statement (`S`) or a portal (`P`)
abbrev pub is_target : ℕ → Bool
is_target variant = nat_eq variant 83 || nat_eq variant 80

-- a format: 0 is text, 1 is binary
abbrev pub is_format : ℤ → Bool
is_format (pos n) = nat_lt n 2
is_format (negsuc n) = false

-- none, one for all values, or one for each
abbrev pub suits : ℕ → ℕ → Bool
suits formats values = nat_lt formats 2 || nat_eq formats values

-- the formats of so many values and those of the results are formats, and suit the values
abbrev pub are_bound : List ℤ → ℕ → List ℤ → Bool
are_bound formats values results = suits (length formats) values && (list_all is_format formats && list_all is_format results)
