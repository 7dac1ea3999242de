-- Private: whether a user's name is spelled as it has to be, character by character. Laws join this to ScramText.
use Rattle.std.specs.Prelude.{ℕ, ◌==◌, ◌&&◌, ◌||◌, Bool, true, false, List, [], ◌∷◌}
use Rattle.pgp_auth.specs.ScramText.{is_value_char}

-- what may follow an equals sign
unfoldable pub is_escape : List ℕ → Bool
is_escape [] = false
is_escape (a ∷ []) = false
is_escape (a ∷ b ∷ rest) = (a == 50 && b == 67) || (a == 51 && b == 68)

-- the character stands for itself, or an escape begins
unfoldable pub may_stand : ℕ → List ℕ → Bool
may_stand c rest = is_value_char c || (c == 61 && is_escape rest)

unfoldable pub spells : List ℕ → Bool
spells [] = true
spells (c ∷ rest) = may_stand c rest && spells rest
