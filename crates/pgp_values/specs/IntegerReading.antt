-- Private: what the steps find that make an integer of a number's digits.
use Rattle.std.specs.Prelude.{◌≡◌, ◌≢◌, ℕ, ◌≤◌, Bool, true, false, List, get_or}
use Rattle.pgp_values.specs.Amount.{spelled}
use Rattle.pgp_values.specs.DecimalText.{run}

abbrev pub digit_in : List ℕ → ℕ → ℕ
digit_in ds i = get_or ds i 0

-- what so many digits spell; after the last zeros stand
unfoldable pub whole_value : List ℕ → ℕ → ℕ
whole_value ds n = spelled 10000 (run (digit_in ds) 0 n)

-- whether a digit from this place on isn't 0
abbrev pub HasDigitFrom : ℕ → List ℕ → Bool → Type 0
HasDigitFrom n ds true = (i : ℕ) × (n ≤ i) × (digit_in ds i ≢ 0)
HasDigitFrom n ds false = (i : ℕ) → n ≤ i → digit_in ds i ≡ 0
