-- A bind whose values are put where they stand.
use Rattle.std.specs.Prelude.{◌≡◌, ◌⊎◌, ℕ, ◌+◌, ◌-◌, ◌<◌, ◌≤◌, ℤ, FitsSigned, true, List, [], ◌∷◌, ◌++◌, length, take, drop, Option, Some, None}
use Rattle.std.specs.Int.{w16}
use Rattle.pgp_base.specs.Cause.{count_cause, length_cause}
use Rattle.pgp_base.specs.Wire.{counted, int16, uint16, uint32}
use Rattle.pgp_base.specs.declared.error.Error.TheVariants.{TooLarge}
use Rattle.pgp_frontend.specs.ClientMessage.{Bind}
use Rattle.pgp_frontend.specs.Payload.{Int16s, Text, cause, joined}
use Rattle.pgp_types.specs.Part.{fixed_part}
use Rattle.pgp_values.specs.List.{Item}
use Rattle.for_c.specs.InPlace.{HasItems}
use Rattle.for_c.specs.Requests.{are_bound}
use Rattle.for_c.specs.declared.in_place.PgpItems.{PgpItems}

-- What stands before the values of a bind: the tag; four bytes, where its length goes at last; the names, the formats, and how many
-- values there are.
abbrev pub bind_head : (gap portal statement : List ℕ) → List ℤ → ℕ → List ℕ
bind_head gap portal statement formats count = 66 ∷ (gap ++ (joined (Text portal ∷ Text statement ∷ Int16s formats ∷ []) ++ uint16 count))

-- A bind of so many values, of which these stand there. Its names and formats are those of a message, which has no cause without values,
-- and the formats suit the values.
pub record BindSoFar (portal statement : List ℕ) (formats : List ℤ) (count : ℕ) (values : List (Option (List ℕ))) (out : List ℕ) (s : PgpItems) : Type 0 where
  pub gap : List ℕ
  pub four : length gap ≡ 4
  pub items : HasItems (bind_head gap portal statement formats count) values count out s
  pub none : cause (Bind portal statement formats [] []) ≡ None
  pub few : count ≤ 65535
  pub bound : are_bound formats count [] ≡ true

-- Private: what the code does at the end. The bytes z stand from this place on, and a message that begins with the memory ends after them: its length is written, and nothing
-- else changed.
pub record Ends (at : ℕ) (z old new : List ℕ) (reported : ℕ) : Type 0 where
  pub length_is : reported ≡ at + length z
  pub fits : reported ≤ length old
  pub counts : length_cause (reported - 1) ≡ None
  pub stands : new ≡ take 1 (take at old) ++ (uint32 (reported - 1) ++ (drop 5 (take at old) ++ (z ++ drop reported old)))

-- Private: why no list of formats is written
abbrev pub WhyNoFormats : List ℤ → List ℕ → ℕ → Type 0
WhyNoFormats formats old code = ((code ≡ 1) × (length old < length (counted int16 formats))) ⊎ ((code ≡ 3) × (count_cause (length formats) ≡ Some TooLarge))

-- Private: why no message ends with these formats
abbrev pub WhyNotEnded : ℕ → List ℤ → List ℕ → ℕ → Type 0
WhyNotEnded at formats old code = ((code ≡ 1) × (length old < at + length (counted int16 formats)))
    ⊎ ((code ≡ 3) × ((count_cause (length formats) ≡ Some TooLarge) ⊎ (length_cause (at + length (counted int16 formats) - 1) ≡ Some TooLarge)))

-- Private: a format, as it is written in a list.
abbrev pub format_item : Item ℤ
format_item = record { IsValue = FitsSigned w16; written = int16; cause = λ _. None; part = fixed_part (FitsSigned w16) int16 2 }
