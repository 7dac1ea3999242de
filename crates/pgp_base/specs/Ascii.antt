-- Private: bytes that are below 128, at places.
use Rattle.std.specs.Prelude.{ℕ, ◌≤◌, ◌<◌, List, slice_index}

-- those from a place up to another are
abbrev pub AreAscii : List ℕ → ℕ → ℕ → Type 0
AreAscii bytes from to = (k : ℕ) → from ≤ k → k < to → slice_index bytes k < 128
