-- Borrowed bytes as a value.
use Rattle.std.specs.Prelude.{ℕ, List, Option, Some, None}
use Rattle.std.specs.Borrow.{Bor}

-- the bytes that are lent, or none for a null
abbrev pub shown : Option (Bor (List ℕ)) → Option (List ℕ)
shown None = None
shown (Some bytes) = Some bytes.now
