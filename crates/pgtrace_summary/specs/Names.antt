-- What is known under names: each name with what has it, in the order in which the names came.
use Rattle.std.specs.Prelude.{ℕ, if◌then◌else◌, List, [], ◌∷◌, map, position, swap_remove, Option, None, Some}
use Rattle.std.specs.List.{IsDistinct}
use Rattle.std.specs.Option.{option_map_or}
use Rattle.std.specs.Str.{bytes_eq}

-- what has this name
abbrev pub found : {V : Type 0} → List ℕ → List (List ℕ × V) → Option V
found name [] = None
found name (e ∷ more) = if bytes_eq name e.0 then Some e.1 else found name more

-- something has this name from now on: in the place of what had it, or behind all others
abbrev pub put : {V : Type 0} → List ℕ → V → List (List ℕ × V) → List (List ℕ × V)
put name value [] = (name, value) ∷ []
put name value (e ∷ more) = if bytes_eq name e.0 then (e.0, value) ∷ more else e ∷ put name value more

abbrev pub names_of : {V : Type 0} → List (List ℕ × V) → List (List ℕ)
names_of list = map (λ e. e.0) list

-- nothing has this name: the last of all stands in its place
abbrev pub without : {V : Type 0} → List ℕ → List (List ℕ × V) → List (List ℕ × V)
without name [] = []
without name (e ∷ more) = option_map_or (λ i. swap_remove (e ∷ more) i e) (position (bytes_eq name) (names_of (e ∷ more))) (e ∷ more)

-- no name stands there twice
abbrev pub AreApart : {V : Type 0} → List (List ℕ × V) → Type 0
AreApart list = IsDistinct bytes_eq (names_of list)

-- what the code keeps
abbrev pub read : {K V : Type 0} → (K → List ℕ) → List (K × V) → List (List ℕ × V)
read name list = map (λ e. (name e.0, e.1)) list
