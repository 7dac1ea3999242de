-- The names of the messages that are listed.
use Rattle.pgtrace_lines.proofs.Common.{◌≡◌, ℕ, List, [], ◌∷◌, map, refl, ap, ◌||◌, list_any, bytes_eq}
use Rattle.std.specs.Borrow.{Bor}

pub any_mapped : (only : List (Bor (List ℕ))) (name : List ℕ) → list_any (λ other. bytes_eq other.now name) only ≡ list_any (λ other. bytes_eq other name) (map (λ other. other.now) only)
any_mapped [] name = refl
any_mapped (x ∷ xs) name = ap (λ b. bytes_eq x.now name || b) (any_mapped xs name)
