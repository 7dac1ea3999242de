-- Private: what the steps find that make digits to the base 10,000 of those of a text.
use Rattle.std.specs.Prelude.{◌≡◌, ◌≢◌, ◌⊎◌, ℕ, ℤ, pos, negsuc, ◌+◌, ◌-◌, ◌*◌, ◌<◌, ◌≤◌, ◌^◌, List, length, get_or, Option, Some, None, nat_lt, if◌then◌else◌}
use Rattle.pgp_values.specs.declared.groups.Groups.{Groups}
use Rattle.pgp_values.specs.Decimal.{Decimal}
use Rattle.pgp_values.specs.DecimalText.{run}

abbrev pub NoneFrom : ℕ → List ℕ → Type 0
NoneFrom n ds = (k : ℕ) → n < k → get_or ds k 0 ≡ 0

abbrev pub NoneTo : ℕ → List ℕ → Type 0
NoneTo n ds = (k : ℕ) → k < n → get_or ds k 0 ≡ 0

abbrev pub IsFirst : List ℕ → Option ℕ → Type 0
IsFirst ds (Some i) = (i < length ds) × (NoneTo i ds × (get_or ds i 0 ≢ 0))
IsFirst ds None = NoneTo (length ds) ds

-- the digit that counts ten to this power, where the first counts one less than `point`
abbrev pub power_digit : List ℕ → ℕ → ℕ → ℕ
power_digit ds point power = if nat_lt power point then get_or ds (point - 1 - power) 0 else 0

abbrev pub group_value : List ℕ → ℕ → ℕ → ℕ
group_value ds point g = 1000 * power_digit ds point (4 * g + 3) + 100 * power_digit ds point (4 * g + 2) + 10 * power_digit ds point (4 * g + 1) + power_digit ds point (4 * g)

-- the groups from this one down
abbrev pub group_down : List ℕ → ℕ → ℕ → ℕ → ℕ
group_down ds point top i = group_value ds point (top - i)

-- a weight as a power of 10,000 that is reported without a sign
abbrev pub IsWeight : ℤ → ℕ → Type 0
IsWeight (pos k) group = (group ≡ 536870912 + k) × (k < 2 ^ 15)
IsWeight (negsuc j) group = (group + (j + 1) ≡ 536870912) × (j < 2 ^ 15)

-- no weight is that power
abbrev pub IsPastWeights : ℕ → Type 0
IsPastWeights group = (536903680 ≤ group) ⊎ (group + 32768 < 536870912)

-- the number that the groups make of these decimal digits
abbrev pub grouped : List ℕ → Groups → Decimal
grouped ds g = record { negative = g.negative; weight = g.weight; scale = g.scale; digits = run (group_down ds g.point g.top) 0 g.count }
