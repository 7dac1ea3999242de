-- Private: a text with its quotes, and perhaps its backslashes, written twice.
use Rattle.std.specs.Prelude.{ℕ, ◌==◌, ◌||◌, Bool, true, false, if◌then◌else◌, List, [], ◌∷◌}
use Rattle.std.specs.List.{flat_map}
use Rattle.pgp_auth.specs.Lexer.{backslash}

-- the byte is written twice: the quote q, and where `slashes` the backslash
abbrev pub is_doubled : ℕ → Bool → ℕ → Bool
is_doubled q true c = c == q || c == backslash
is_doubled q false c = c == q

unfoldable pub doubled : ℕ → Bool → List ℕ → List ℕ
doubled q slashes z = flat_map (λ c. if is_doubled q slashes c then c ∷ c ∷ [] else c ∷ []) z
