-- Values that are put where they stand.
use Rattle.std.specs.Prelude.{◌≡◌, ◌≢◌, ◌⊎◌, ℕ, ◌+◌, ◌<◌, ◌≤◌, List, [], ◌∷◌, ◌++◌, length, take, drop, map, Option, None}
use Rattle.std.specs.List.{flat_map}
use Rattle.pgp_base.specs.Cause.{first, nullable_cause}
use Rattle.pgp_base.specs.Wire.{nullable}
use Rattle.pgp_types.specs.Array.{has_null}
use Rattle.for_c.specs.declared.in_place.PgpItems.{PgpItems}

-- the bytes of the next item, which stand after the four of its length
abbrev pub value_at : ℕ → List ℕ → PgpItems → List ℕ
value_at len out s = take len (drop (s.at + 4) out)

-- After these bytes stand these values, up to the place of the list, which is to have so many.
pub record HasItems (head : List ℕ) (vs : List (Option (List ℕ))) (count : ℕ) (out : List ℕ) (s : PgpItems) : Type 0 where
  pub fits : s.at ≤ length out
  pub stands : take s.at out ≡ head ++ flat_map nullable vs
  pub count_is : count ≡ length vs + s.left
  pub nulls : s.has_null ≡ has_null vs
  pub none : first (map nullable_cause vs) ≡ None

-- Private: what the code does at each item. The word stands before it, and nothing else changed; the list has one item more.
pub record Adds (word : List ℕ) (len : ℕ) (old new : List ℕ) (before after : PgpItems) : Type 0 where
  pub stands : new ≡ take before.at old ++ (word ++ drop (before.at + 4) old)
  pub at : after.at ≡ before.at + (4 + len)
  pub fits : after.at ≤ length old
  pub left : before.left ≡ after.left + 1
  pub same : after.has_null ≡ before.has_null

-- The item stands where the list went on: its four bytes of length were written, and nothing else. Whatever stood before, it is the
-- next of the list.
pub record Places (v : Option (List ℕ)) (old new : List ℕ) (before after : PgpItems) : Type 0 where
  pub within : before.at + 4 ≤ length old
  pub front : take before.at new ≡ take before.at old
  pub behind : drop (before.at + 4) new ≡ drop (before.at + 4) old
  pub size : length new ≡ length old
  pub at : after.at ≡ before.at + length (nullable v)
  pub next : (head : List ℕ) (vs : List (Option (List ℕ))) (count : ℕ) → HasItems head vs count old before → HasItems head (vs ++ v ∷ []) count new after

abbrev pub NoRoom : ℕ → List ℕ → PgpItems → Type 0
NoRoom len old s = length old < s.at + (4 + len)

-- Why no item is added: all that were announced stand there; its length exceeds its field; or it passes the memory's end.
abbrev pub NoItem : ℕ → List ℕ → PgpItems → ℕ → Type 0
NoItem len old s code = ((code ≡ 10) × (s.left ≡ 0)) ⊎ (((code ≡ 3) × ((s.left ≢ 0) × (2147483647 < len))) ⊎ ((code ≡ 1) × ((s.left ≢ 0) × (len ≤ 2147483647) × NoRoom len old s)))

abbrev pub Same : List ℕ → List ℕ → PgpItems → PgpItems → Type 0
Same old new before after = (new ≡ old) × (after ≡ before)

-- no list ends there: items are missing, or none was begun, whose head takes at least so many bytes
abbrev pub IsUnfinished : ℕ → PgpItems → Type 0
IsUnfinished least s = (s.left ≢ 0) ⊎ (s.at < least)
