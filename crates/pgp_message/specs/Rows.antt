-- The row at the front of a stream.
use Rattle.std.specs.Prelude.{◌≡◌, List, ℕ, Option, Some, None, Ok}
use Rattle.pgp_message.specs.BackendMessage.{DataRow}
use Rattle.pgp_message.specs.Parts.{CountedBytes}
use Rattle.pgp_message.specs.Stream.{TakesFrame}

-- The row at the front is taken; or none stands there, and all stays.
abbrev pub TakesRow : List ℕ → Option CountedBytes → List ℕ → Type 0
TakesRow old (Some row) new = TakesFrame old (Ok (DataRow row)) new
TakesRow old None new = ((row : CountedBytes) (rest : List ℕ) → TakesFrame old (Ok (DataRow row)) rest → ⊥) × (new ≡ old)
