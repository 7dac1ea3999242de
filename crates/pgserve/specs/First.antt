-- What stands first in a list.
use Rattle.std.specs.Prelude.{◌≡◌, ℕ, ◌<◌, List, length}
use Rattle.std.specs.List.{AllWithin, HoldsAt}

-- It is so of this one, which stands in the list, and of none before it.
abbrev pub IsFirst : {X : Type 0} → (X → Type 0) → List X → X → Type 0
IsFirst {X} Is xs x = Is x × (place : ℕ) × (place < length xs) × HoldsAt (λ (y : X). y ≡ x) xs place × AllWithin (λ (y : X). Is y → ⊥) xs 0 place
