-- A walk over items that the caller holds as three numbers: where the next begins, where the last ends, and how many are to come.
use Rattle.std.specs.Prelude.{◌≡◌, ◌≢◌, ◌⊎◌, ℕ, ◌+◌, ◌-◌, List, [], ◌∷◌, ◌++◌, length, take, drop, nat_le, if◌then◌else◌}
use Rattle.pgp_base.specs.Error.{number_of}
use Rattle.pgp_base.specs.Items.{Unmarked}
use Rattle.pgp_base.specs.declared.error.Error.{Error}
use Rattle.for_c.specs.declared.cursor.PgpCursor.{PgpCursor}

-- the bytes from one place to another, where these are places of the bytes in this order
abbrev pub rest_of : List ℕ → ℕ → ℕ → List ℕ
rest_of bytes at end = if nat_le end (length bytes) then (if nat_le at end then take (end - at) (drop at bytes) else []) else []

abbrev pub rest : List ℕ → PgpCursor → List ℕ
rest bytes c = rest_of bytes c.at c.end

-- these stand among the bytes, from this place on
abbrev pub StandsFrom : List ℕ → ℕ → List ℕ → Type 0
StandsFrom bytes at part = take (length part) (drop at bytes) ≡ part

-- An item of this grammar was taken from the front of what is left, and what is left is what stands after it.
pub record Passes {V : Type 0} (Spelled : ℕ → V → List ℕ → Type 0) (bytes : List ℕ) (before after : PgpCursor) (x : V) : Type 0 where
  pub front : List ℕ
  pub spelled : Spelled before.at x front
  pub whole : rest bytes before ≡ front ++ rest bytes after
  pub place : after.at ≡ before.at + length front
  pub same_end : after.end ≡ before.end

-- Of a list whose items are counted: one fewer is to come.
abbrev pub Takes : {V : Type 0} → (ℕ → V → List ℕ → Type 0) → List ℕ → PgpCursor → PgpCursor → V → Type 0
Takes Spelled bytes before after x = Passes Spelled bytes before after x × (after.left + 1 ≡ before.left)

-- Of such a list these items, one after another.
pub data TakesAll {V : Type 0} (Spelled : ℕ → V → List ℕ → Type 0) (bytes : List ℕ) (before : PgpCursor) : PgpCursor → List V → Type 0 where
  none : TakesAll Spelled bytes before before []
  more : {between after : PgpCursor} → {xs : List V} → {x : V} → TakesAll Spelled bytes before between xs
      → Takes Spelled bytes between after x → TakesAll Spelled bytes before after (xs ++ x ∷ [])

-- no item is to come, and no byte is left
abbrev pub IsEnded : List ℕ → PgpCursor → Type 0
IsEnded bytes c = (c.left ≡ 0) × (rest bytes c ≡ [])

-- bytes are left after the last item, or no item stands there
abbrev pub RefusesItem : (List ℕ → Error → Type 0) → List ℕ → PgpCursor → ℕ → Type 0
RefusesItem Refused bytes c code = ((c.left ≡ 0) × (rest bytes c ≢ []) × (code ≡ 8)) ⊎ ((e : Error) × (c.left ≢ 0) × Refused (rest bytes c) e × (code ≡ number_of e))

-- Of a list that a byte 0 ends: the item doesn't begin with it, and the count isn't looked at.
abbrev pub TakesMarked : {V : Type 0} → (ℕ → V → List ℕ → Type 0) → List ℕ → PgpCursor → PgpCursor → V → Type 0
TakesMarked Spelled bytes before after x = Passes (Unmarked Spelled) bytes before after x × (after.left ≡ before.left)

-- the byte 0 is all that is left
abbrev pub IsMarkedEnd : List ℕ → PgpCursor → Type 0
IsMarkedEnd bytes c = rest bytes c ≡ 0 ∷ []

-- bytes are left after the byte 0, or neither it nor an item stands there
abbrev pub RefusesMarked : (List ℕ → Error → Type 0) → List ℕ → PgpCursor → ℕ → Type 0
RefusesMarked Refused bytes c code = ((more : List ℕ) × (rest bytes c ≡ 0 ∷ more) × (more ≢ []) × (code ≡ 8))
    ⊎ ((e : Error) × ((more : List ℕ) → rest bytes c ≢ 0 ∷ more) × Refused (rest bytes c) e × (code ≡ number_of e))
